-- THE fields of pairs with no name twice: `fields` has every pair, by increasing name, and no other list is so. Assumes nothing.
use Rattle.rules.proofs.Prelude.{◌≡◌, refl, ap, ◌∙◌, List, [], ◌∷◌, ℕ, ◌<◌, inl, inr, arith, length}
use Rattle.sets.specs.Sets.{In, Distinct, Numbered, collect}
use Rattle.sets.proofs.Laws.{only_one, collect_increasing, in_collect, collect_in}
use Rattle.source.specs.Pairs.{pairs}
use Rattle.sort.specs.Steps.{labels}
use Rattle.lay.specs.Items.{number_of, numbers_for}
use Rattle.lay.proofs.Items.{number_is}
use Rattle.pairs.specs.Checks.{pair_name}
use Rattle.builder.specs.Bytes.{fields}
use Rattle.builder.proofs.Fields.{field_names, fields_count, one_pair}
use Rattle.layered.specs.Fields.{Among, TheFields}

-- SOME NUMBERS AND THEIR NAMES

module _ (name : ℕ → List ℕ) where
  among_in : (k : ℕ) (ks : List ℕ) → Among k ks → In (name k) (labels name ks)
  unfolding labels
  among_in k [] h = elim h [ ]
  among_in k (j ∷ ks) (inl e) = inl (ap name e)
  among_in k (j ∷ ks) (inr h) = inr (among_in k ks h)

  -- a name of some numbers is the name of one of them
  in_among : (x : List ℕ) (ks : List ℕ) (P : List ℕ → Type 0) → ((k : ℕ) → Among k ks → P (name k)) → In x (labels name ks) → P x
  unfolding labels
  in_among x [] P h i = elim i [ ]
  in_among x (j ∷ ks) P h (inl e) = rw e (h j (inl refl))
  in_among x (j ∷ ks) P h (inr i) = in_among x ks P (λ k a. h k (inr a)) i

  module _ (n : ℕ) where
    -- the numbers of some names are below n, and each name has its own among them
    numbers_below : (xs : List (List ℕ)) → ((x : List ℕ) → In x xs → Numbered name 0 n x) → (k : ℕ) → Among k (numbers_for name n xs) → k < n
    unfolding numbers_for
    numbers_below [] h k i = elim i [ ]
    numbers_below (x ∷ xs) h k (inl e) = rw e (number_is name n x (h x (inl refl))).0
    numbers_below (x ∷ xs) h k (inr i) = numbers_below xs (λ y j. h y (inr j)) k i

    number_among : (x : List ℕ) (xs : List (List ℕ)) → In x xs → Among (number_of name n x) (numbers_for name n xs)
    unfolding numbers_for
    number_among x [] i = elim i [ ]
    number_among x (y ∷ xs) (inl e) = inl (ap (number_of name n) e)
    number_among x (y ∷ xs) (inr i) = inr (number_among x xs i)

    -- where no two have one name, numbers are known by their names
    by_names : ((i j : ℕ) → i < n → j < n → name i ≡ name j → i ≡ j) → (ks js : List ℕ)
        → ((k : ℕ) → Among k ks → k < n) → ((k : ℕ) → Among k js → k < n) → labels name ks ≡ labels name js → ks ≡ js
    unfolding labels
    by_names one [] [] p q e = refl
    by_names one [] (j ∷ js) p q e = let z : ◌≡◌ {A = ℕ} 0 1 = cc in absurd (omega arith)
    by_names one (k ∷ ks) [] p q e = let z : ◌≡◌ {A = ℕ} 0 1 = cc in absurd (omega arith)
    by_names one (k ∷ ks) (j ∷ js) p q e =
        let head : name k ≡ name j = cc in
        let tail : labels name ks ≡ labels name js = cc in
        let same = one k j (p k (inl refl)) (q j (inl refl)) head in
        let rest = by_names one ks js (λ i h. p i (inr h)) (λ i h. q i (inr h)) tail in
        rw (same, rest)

-- THE THEOREMS

module _ (d words : List ℕ) (alone : Distinct (pair_name d words) 0 (pairs words)) where
  fields_all : (k : ℕ) → k < pairs words → Among k (fields d words)
  unfolding fields
  fields_all k p =
      let name = pair_name d words in
      let n = pairs words in
      let there = collect_in name 0 n k (omega arith) (omega arith) in
      let w = number_is name n (name k) (in_collect name 0 n (name k) there) in
      let is : number_of name n (name k) ≡ k = one_pair d words alone (number_of name n (name k)) k w.0 p w.1 in
      rw is at (number_among name n (name k) (collect name 0 n) there)

  fields_given : (k : ℕ) → Among k (fields d words) → k < pairs words
  unfolding fields
  fields_given = numbers_below (pair_name d words) (pairs words) _ (in_collect (pair_name d words) 0 (pairs words))

  pub the_fields : TheFields d words (fields d words)
  the_fields =
      record {
        increasing = rw (field_names d words) (collect_increasing (pair_name d words) 0 (pairs words));
        given = fields_given;
        all = fields_all;
      }

  -- and there is only one such list
  pub only_fields : {ks js : List ℕ} → TheFields d words ks → TheFields d words js → ks ≡ js
  only_fields {ks} {js} p q =
      let name = pair_name d words in
      by_names name (pairs words) (one_pair d words alone) ks js p.given q.given
      (only_one (labels name ks) (labels name js) p.increasing q.increasing (record {
        to = λ z h. in_among name z ks (λ x. In x (labels name js)) (λ k a. among_in name k js (q.all k (p.given k a))) h;
        from = λ z h. in_among name z js (λ x. In x (labels name ks)) (λ k a. among_in name k ks (p.all k (q.given k a))) h;
      }))

  -- it is as long as there are pairs
  pub as_many : {ks : List ℕ} → TheFields d words ks → length ks ≡ pairs words
  as_many p = ap length (only_fields p the_fields) ∙ fields_count d words alone
