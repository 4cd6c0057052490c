-- Laws of the items in their order: as many as names, and item j is that of any number of name j. Of names that are written themselves the
-- items are the list. Assumes nothing.
use Rattle.rules.proofs.Prelude.{◌≡◌, refl, sym, ap, ◌∙◌, List, [], ◌∷◌, ℕ, zero, suc, ◌<◌, arith, length, get_or}
use Rattle.names.specs.Search.{Sought, seek}
use Rattle.names.specs.Search.Sought.{nowhere, here}
use Rattle.names.proofs.Search.{seek_at, seek_nowhere}
use Rattle.run.specs.Meaning.{GoodEnds}
use Rattle.sets.specs.Sets.{In, Numbered, collect}
use mathlib.Core.Logic.◌⊎◌.{inl, inr}
use Rattle.sets.proofs.Laws.{at_in, in_collect}
use Rattle.source.specs.declared.Source.{Source}
use Rattle.source.specs.declared.Source.TheVariants as source
use Rattle.source.specs.Names.{name_of, count_of, Sound, item_of, Ranged}
use Rattle.sort.specs.Steps.{labels}
use Rattle.pick.specs.Pick.{list_of}
use Rattle.pick.specs.Pick as pick
use Rattle.pick.proofs.Laws.{labels_at}
use Rattle.lay.specs.Items.{place_of, number_of, numbers_for, numbers_of, items_of}
use Rattle.lay.specs.Steps.{Steady, Lent}

-- THE NUMBER of a name that some number has

module _ (name : ℕ → List ℕ) (n : ℕ) where
  pub number_is : (x : List ℕ) → Numbered name 0 n x → (number_of name n x < n) × (name (number_of name n x) ≡ x)
  unfolding number_of
  number_is x w = go (seek name x n) refl
    where
      go : (s : Sought) → seek name x n ≡ s → (place_of s < n) × (name (place_of s) ≡ x)
      go nowhere e = absurd (seek_nowhere name x n e w.number (omega (arith, w.high)) w.name_is)
      go (here k) e = seek_at name x n k e

  pub numbers_count : (xs : List (List ℕ)) → length (numbers_for name n xs) ≡ length xs
  unfolding numbers_for
  numbers_count [] = refl
  numbers_count (x ∷ xs) = ap suc (numbers_count xs)

  pub numbers_at : (xs : List (List ℕ)) (j : ℕ) → j < length xs → get_or (numbers_for name n xs) j 0 ≡ number_of name n (get_or xs j [])
  unfolding numbers_for
  numbers_at [] j p = absurd (omega arith)
  numbers_at (x ∷ xs) zero p = refl
  numbers_at (x ∷ xs) (suc j) p = numbers_at xs j (omega arith)

pub labels_count : (name : ℕ → List ℕ) (ks : List ℕ) → length (labels name ks) ≡ length ks
unfolding labels
labels_count name [] = refl
labels_count name (k ∷ ks) = ap suc (labels_count name ks)

-- ALL OF THEM, in the order of names

module _ (run words : List ℕ) (kind : Source) where
  pub numbers_many : length (numbers_of run words kind) ≡ length (list_of run words kind)
  unfolding numbers_of
  numbers_many = numbers_count (name_of run words kind) (count_of words kind) (list_of run words kind)

  -- number j of them has name j of the list
  module _ (j : ℕ) (p : j < length (list_of run words kind)) where
    pub number_at : (get_or (numbers_of run words kind) j 0 < count_of words kind) × (name_of run words kind (get_or (numbers_of run words kind) j 0) ≡ get_or (list_of run words kind) j [])
    unfolding numbers_of list_of
    number_at =
        let name = name_of run words kind in
        let n = count_of words kind in
        let x = get_or (collect name 0 n) j [] in
        rw (numbers_at name n (collect name 0 n) j p) (number_is name n x (in_collect name 0 n x (at_in (collect name 0 n) j p)))

  module _ (bytes : List ℕ) where
    pub items_many : length (items_of run words bytes kind) ≡ length (list_of run words kind)
    unfolding items_of
    items_many = labels_count (item_of bytes words kind) (numbers_of run words kind) ∙ numbers_many

    -- item j is that of any number of name j
    pub item_at : Steady run words bytes kind → {j k : ℕ} → pick.Stands run words kind j k → item_of bytes words kind k ≡ get_or (items_of run words bytes kind) j []
    unfolding items_of
    item_at steady {j} {k} s =
        let w = number_at j s.inside in
        let there : j < length (numbers_of run words kind) = omega (arith, numbers_many, s.inside) in
        steady k (get_or (numbers_of run words kind) j 0) s.known w.0 (s.is ∙ sym w.1)
        ∙ sym (labels_at (item_of bytes words kind) (numbers_of run words kind) j there)

-- NAMES THAT ARE WRITTEN THEMSELVES

pub back : (name : ℕ → List ℕ) (n : ℕ) (xs : List (List ℕ)) → ((x : List ℕ) → In x xs → Numbered name 0 n x) → labels name (numbers_for name n xs) ≡ xs
unfolding labels numbers_for
back name n [] h = refl
back name n (x ∷ xs) h = rw ((number_is name n x (h x (inl refl))).1, back name n xs (λ y i. h y (inr i)))

module _ (run ends : List ℕ) where
  pub items_names : items_of run ends run source.Ends ≡ list_of run ends source.Ends
  unfolding items_of item_of name_of numbers_of list_of
  items_names =
      back (name_of run ends source.Ends) (count_of ends source.Ends) _ (in_collect (name_of run ends source.Ends) 0 (count_of ends source.Ends))

  pub lent_names : GoodEnds run ends → Lent run ends run source.Ends
  unfolding Sound Ranged item_of name_of
  lent_names g = record { sound = g; ranged = g; steady = λ i j p q e. e }
