-- Laws of the fields in their order: as many as names, field j has name j of the list, and it is the one pair of that name. Assumes nothing.
use Rattle.rules.proofs.Prelude.{◌≡◌, refl, sym, ap, ◌∙◌, List, [], ◌∷◌, ℕ, zero, suc, ◌<◌, dec_lt, arith, length, get_or}
use Rattle.sets.specs.Sets.{Distinct, collect}
use Rattle.sets.proofs.Laws.{in_collect, at_in}
use Rattle.sets.proofs.Distinct.{all_new}
use Rattle.source.specs.Pairs.{pairs, id, child}
use Rattle.sort.specs.Steps.{labels}
use Rattle.pick.proofs.Laws.{labels_at}
use Rattle.lay.proofs.Items.{back, number_is, numbers_count, numbers_at, labels_count}
use Rattle.pairs.specs.Checks.{pair_name}
use Rattle.builder.specs.Bytes.{fields, ids_of, children_of}

-- ids and children of some pairs, by their place

pub ids_count : (words ks : List ℕ) → length (ids_of words ks) ≡ length ks
unfolding ids_of
ids_count words [] = refl
ids_count words (k ∷ ks) = ap suc (ids_count words ks)

pub ids_at : (words ks : List ℕ) (j : ℕ) → j < length ks → get_or (ids_of words ks) j 0 ≡ id words (get_or ks j 0)
unfolding ids_of
ids_at words [] j p = absurd (omega arith)
ids_at words (k ∷ ks) zero p = refl
ids_at words (k ∷ ks) (suc j) p = ids_at words ks j (omega arith)

pub children_count : (bytes words ks : List ℕ) → length (children_of bytes words ks) ≡ length ks
unfolding children_of
children_count bytes words ks = labels_count (child bytes words) ks

pub children_at : (bytes words ks : List ℕ) (j : ℕ) → j < length ks → get_or (children_of bytes words ks) j [] ≡ child bytes words (get_or ks j 0)
unfolding children_of
children_at bytes words ks j p = labels_at (child bytes words) ks j p

-- THE FIELDS

module _ (d words : List ℕ) where
  -- their names are the increasing list of the pairs' names
  pub field_names : labels (pair_name d words) (fields d words) ≡ collect (pair_name d words) 0 (pairs words)
  unfolding fields
  field_names = back (pair_name d words) (pairs words) _ (in_collect (pair_name d words) 0 (pairs words))

  pub fields_many : length (fields d words) ≡ length (collect (pair_name d words) 0 (pairs words))
  unfolding fields
  fields_many = numbers_count (pair_name d words) (pairs words) _

  -- field j is a pair, and has name j of the list
  pub field_at : (j : ℕ) → j < length (collect (pair_name d words) 0 (pairs words))
      → (get_or (fields d words) j 0 < pairs words) × (pair_name d words (get_or (fields d words) j 0) ≡ get_or (collect (pair_name d words) 0 (pairs words)) j [])
  unfolding fields
  field_at j p =
      let name = pair_name d words in
      let n = pairs words in
      let x = get_or (collect name 0 n) j [] in
      rw (numbers_at name n (collect name 0 n) j p) (number_is name n x (in_collect name 0 n x (at_in (collect name 0 n) j p)))

  module _ (alone : Distinct (pair_name d words) 0 (pairs words)) where
    -- as many as pairs
    pub fields_count : length (fields d words) ≡ pairs words
    fields_count = fields_many ∙ all_new (pair_name d words) 0 (pairs words) alone

    -- a pair of a name is the pair of that name
    pub one_pair : (i j : ℕ) → i < pairs words → j < pairs words → pair_name d words i ≡ pair_name d words j → i ≡ j
    one_pair i j p q e = go (dec_lt i j) (dec_lt j i)
      where
        go : Dec (i < j) → Dec (j < i) → i ≡ j
        go (yes r) s = absurd (alone i j (omega arith) r (omega arith) e)
        go (no r) (yes s) = absurd (alone j i (omega arith) s (omega arith) (sym e))
        go (no r) (no s) = omega arith

    -- so a pair that has name j of the list is field j
    pub field_is : (j k : ℕ) → j < length (collect (pair_name d words) 0 (pairs words)) → k < pairs words
        → pair_name d words k ≡ get_or (collect (pair_name d words) 0 (pairs words)) j [] → k ≡ get_or (fields d words) j 0
    field_is j k p q e = let w = field_at j p in one_pair k (get_or (fields d words) j 0) q w.0 (e ∙ sym w.1)
