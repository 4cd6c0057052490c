-- Pairs in another order, with the children elsewhere in other lent bytes, give the same bytes, and where both are good the same answer and room
-- (document 02, k); no pairs give 02 00 00. Assumes nothing.
use Rattle.rules.proofs.Prelude.{◌≡◌, refl, sym, ap, ap₂, ◌∙◌, List, [], ◌∷◌, ℕ, ◌≤◌, ◌<◌, inl, inr, arith, length}
use Rattle.width.specs.Width.{bytes_of}
use Rattle.put.specs.Numbers.{numbers}
use Rattle.dictionary.specs.Dictionary as dictionary
use Rattle.sets.specs.Sets.{In, Distinct, Numbered, collect, total}
use Rattle.sets.proofs.Laws.{only_one, collect_increasing, in_collect, collect_in}
use Rattle.sets.proofs.Distinct.{all_new}
use Rattle.source.specs.Pairs.{pairs, id, child}
use Rattle.sort.specs.Steps.{labels}
use Rattle.lay.specs.Items.{number_of, numbers_for}
use Rattle.lay.specs.Bytes.{width_of, offsets, joined}
use Rattle.lay.proofs.Items.{number_is}
use Rattle.pairs.specs.Checks.{pair_name, largest}
use Rattle.builder.specs.Bytes.{fields, ids_of, children_of, count_width, lead, layout, id_width, offset_width, children, object, start, size}
use Rattle.builder.proofs.Fields.{one_pair}
use Rattle.write_object.specs.Writing.{checks, written, room_after}
use Rattle.write_object.specs.Meaning.{GoodPairs}
use Rattle.write_object.proofs.Refuses.{pairs_pass}
use Rattle.layered.specs.Fields.{Matched, SamePairs}
use Rattle.layered.proofs.Smallest.{largest_above, largest_least}

-- the pair of a name, and of each of some
abbrev pair_of : List ℕ → List ℕ → List ℕ → ℕ
pair_of d words x = number_of (pair_name d words) (pairs words) x

abbrev pairs_of : List ℕ → List ℕ → List (List ℕ) → List ℕ
pairs_of d words xs = numbers_for (pair_name d words) (pairs words) xs

-- ONE WAY: what the one has, the other has

module _ (d bytes words bytes' words' : List ℕ) (to : (k : ℕ) → k < pairs words → Matched bytes words k bytes' words') where
  -- its names
  names_there : (x : List ℕ) → In x (collect (pair_name d words) 0 (pairs words)) → In x (collect (pair_name d words') 0 (pairs words'))
  unfolding pair_name
  names_there x h =
      let w = in_collect (pair_name d words) 0 (pairs words) x h in
      let m = to w.number (omega (arith, w.high)) in
      let is : pair_name d words' m.number ≡ x = ap (dictionary.name d) m.same_id ∙ w.name_is in
      rw is at (collect_in (pair_name d words') 0 (pairs words') m.number (omega arith) (omega (arith, m.is_pair)))

  -- and its largest id
  largest_there : largest words (pairs words) ≤ largest words' (pairs words')
  largest_there =
      largest_least words (pairs words) _ (λ k p. let m = to k p in omega (arith, m.same_id, largest_above words' (pairs words') m.number m.is_pair))

-- BOTH WAYS

module _ (d bytes words bytes' words' : List ℕ) (same : SamePairs bytes words bytes' words') where
  pub same_names : collect (pair_name d words) 0 (pairs words) ≡ collect (pair_name d words') 0 (pairs words')
  same_names =
      only_one _ _ (collect_increasing (pair_name d words) 0 (pairs words)) (collect_increasing (pair_name d words') 0 (pairs words')) (record {
        to = names_there d bytes words bytes' words' same.to;
        from = names_there d bytes' words' bytes words same.from;
      })

  same_width : id_width words ≡ id_width words'
  unfolding id_width
  same_width =
      let e : largest words (pairs words) ≡ largest words' (pairs words') =
      omega (arith, largest_there d bytes words bytes' words' same.to, largest_there d bytes' words' bytes words same.from) in
      rw e

  module _ (alone : Distinct (pair_name d words) 0 (pairs words)) (alone' : Distinct (pair_name d words') 0 (pairs words')) where
    -- the pair of a name is matched by the pair of that name
    same_pair : (x : List ℕ) → Numbered (pair_name d words) 0 (pairs words) x → Numbered (pair_name d words') 0 (pairs words') x
        → (id words (pair_of d words x) ≡ id words' (pair_of d words' x)) × (child bytes words (pair_of d words x) ≡ child bytes' words' (pair_of d words' x))
    unfolding pair_name
    same_pair x w w' =
        let one = number_is (pair_name d words) (pairs words) x w in
        let other = number_is (pair_name d words') (pairs words') x w' in
        let m = same.to (pair_of d words x) one.0 in
        let is : m.number ≡ pair_of d words' x =
        one_pair d words' alone' m.number (pair_of d words' x) m.is_pair other.0 (ap (dictionary.name d) m.same_id ∙ one.1 ∙ sym other.1) in
        (sym m.same_id ∙ ap (id words') is, sym m.same_child ∙ ap (child bytes' words') is)

    -- so of any of these names
    same_rows : (xs : List (List ℕ)) → ((x : List ℕ) → In x xs → Numbered (pair_name d words) 0 (pairs words) x)
        → ((x : List ℕ) → In x xs → Numbered (pair_name d words') 0 (pairs words') x)
        → (ids_of words (pairs_of d words xs) ≡ ids_of words' (pairs_of d words' xs)) × (children_of bytes words (pairs_of d words xs) ≡ children_of bytes' words' (pairs_of d words' xs))
    unfolding ids_of children_of labels numbers_for
    same_rows [] h h' = (refl, refl)
    same_rows (x ∷ xs) h h' =
        let one = same_pair x (h x (inl refl)) (h' x (inl refl)) in
        let rest = same_rows xs (λ y i. h y (inr i)) (λ y i. h' y (inr i)) in
        (ap₂ ◌∷◌ one.0 rest.0, ap₂ ◌∷◌ one.1 rest.1)

    same_fields : (ids_of words (fields d words) ≡ ids_of words' (fields d words')) × (children d bytes words ≡ children d bytes' words')
    unfolding fields children
    same_fields =
        rw same_names
        (same_rows (collect (pair_name d words') 0 (pairs words')) (rw same_names at (in_collect (pair_name d words) 0 (pairs words)))
        (in_collect (pair_name d words') 0 (pairs words')))

    -- THE THEOREMS
    pub same_count : pairs words ≡ pairs words'
    same_count = sym (all_new (pair_name d words) 0 (pairs words) alone) ∙ ap length same_names ∙ all_new (pair_name d words') 0 (pairs words') alone'

    pub same_bytes : object d bytes words ≡ object d bytes' words'
    unfolding object
    same_bytes = rw (same_width, same_fields.0, same_fields.1)

    pub same_start : start d bytes words ≡ start d bytes' words'
    unfolding start
    same_start = rw (same_width, same_count, same_fields.1)

    pub same_size : size d bytes words ≡ size d bytes' words'
    unfolding size
    same_size = ap length same_bytes

-- GOOD PAIRS pass all their checks, so the answers are the same

module _ (d bytes words bytes' words' : List ℕ) (same : SamePairs bytes words bytes' words')
    (g : GoodPairs d bytes words) (g' : GoodPairs d bytes' words') (room : List ℕ) where
  alike : {A : Type 0} → ((s : SamePairs bytes words bytes' words') → Distinct (pair_name d words) 0 (pairs words) → Distinct (pair_name d words') 0 (pairs words') → A) → A
  alike law = law same g.ranged.single.distinct g'.ranged.single.distinct

  same_checks : checks d bytes words room ≡ checks d bytes' words' room
  same_checks = pairs_pass d bytes words room g ∙ rw (alike (same_size d bytes words bytes' words')) (sym (pairs_pass d bytes' words' room g'))

  pub same_answer : written d bytes words room ≡ written d bytes' words' room
  unfolding written
  same_answer =
      rw (same_checks, alike (same_count d bytes words bytes' words'), alike (same_start d bytes words bytes' words'), alike (same_size d bytes words bytes' words'))

  pub same_room : room_after d bytes words room ≡ room_after d bytes' words' room
  unfolding room_after
  same_room = rw (same_checks, alike (same_bytes d bytes words bytes' words'), alike (same_size d bytes words bytes' words'))

pub no_pairs : (d bytes : List ℕ) → object d bytes [] ≡ 0x02 ∷ 0x00 ∷ 0x00 ∷ []
unfolding object layout lead count_width id_width offset_width width_of children children_of fields ids_of numbers_for labels collect largest total numbers offsets joined bytes_of
no_pairs d bytes = refl
