-- The whole check and its answer, by where it is settled: the dictionary, the limit, the tree. Assumes nothing.
use Rattle.rules.proofs.Prelude.{◌≡◌, refl, sym, ap, ◌∙◌, List, [], ◌∷◌, ◌++◌, ℕ, ◌-◌, ◌≤◌, ◌<◌, arith, length, accept, gives, pass, stop, ◌&◌}
use Rattle.rules.proofs.Prelude.{first_at, first_pass, Found, List·getD-append}
use native.Mathlib.Nat.{zero-add}
use Rattle.part.specs.Part.{part}
use Rattle.part.proofs.Laws.{part_whole}
use Rattle.dictionary.specs.Limits.{limit}
use Rattle.dictionary.specs.Dictionary as dictionary
use Rattle.layout.specs.declared.Widths.{Widths}
use Rattle.encoding.specs.declared.Header.TheVariants as header
use Rattle.encoding.specs.Encoding.{header_of}
use Rattle.lengths.specs.Lengths.{own_length, bytes_of}
use Rattle.encoding.proofs.Laws.{object_says}
use Rattle.layer.specs.Object as object
use Rattle.layer.proofs.Laws as object-laws
use Rattle.nodes.specs.Tree.{Seen, from, field_end, tree, levels, checks_at, checks, told, verdict_at}
use Rattle.nodes.specs.Tree.Seen.{fine, wrong}
use Rattle.nodes.specs.Meaning.{head_of}
use Rattle.nodes.proofs.Laws.{first_wrong, then_next, here_stop, here_pass, own_stops, tree_object, more_levels}

module _ (depth : ℕ) (d v : List ℕ) where
  pub by_dictionary : {c p : ℕ} → dictionary.checks d ≡ stop c p → checks_at depth d v ≡ wrong c p 0
  unfolding checks_at
  by_dictionary e = first_wrong _ (here_stop e)

  module _ (over : dictionary.checks d ≡ pass) where
    pub too_long : limit < length v → checks_at depth d v ≡ wrong 20 0 0
    unfolding checks_at
    too_long p = then_next _ (here_pass over) ∙ first_wrong _ (here_stop (first_at 0 _ p))

    pub by_tree : length v ≤ limit → checks_at depth d v ≡ tree d (levels - depth) v
    unfolding checks_at
    by_tree p = then_next _ (here_pass over) ∙ then_next _ (here_pass (first_pass _ (p & tt)))

-- the whole is its part from 0 to its end
from_start : (x : Seen) → from 0 x ≡ x
unfolding from
from_start fine = refl
from_start (wrong c p a) = rw zero-add

-- THE ANSWER, by what the whole check comes to
module _ (depth : ℕ) (d v : List ℕ) where
  pub refused_by : {c p a : ℕ} → checks_at depth d v ≡ wrong c p a → gives c (a ∷ []) p ≡ verdict_at depth d v
  unfolding verdict_at
  refused_by e = rw e

  pub accepted_by : {own : ℕ} → checks_at depth d v ≡ fine → own ≡ bytes_of (own_length v) → accept (0 ∷ own ∷ []) ≡ verdict_at depth d v
  unfolding verdict_at
  accepted_by e own = rw (e, own)

  -- what is found of the value, with the levels that are left at this depth
  module _ (over : dictionary.checks d ≡ pass) (fits : length v ≤ limit) (left : ℕ) (is : left ≡ levels - depth) where
    pub found_bad : {c p a : ℕ} → from 0 (tree d left (part v 0 (length v))) ≡ wrong c p a → gives c (a ∷ []) p ≡ verdict_at depth d v
    found_bad bad =
        refused_by (by_tree depth d v over fits ∙ rw (← is) (sym (from_start (tree d left v)) ∙ (rw (part_whole v) at bad)))

    pub found_good : {own : ℕ} (height : ℕ) → height ≤ left → tree d height (part v 0 (length v)) ≡ fine → own ≡ bytes_of (own_length v)
        → accept (0 ∷ own ∷ []) ≡ verdict_at depth d v
    found_good height few good own =
        accepted_by (by_tree depth d v over fits ∙ rw (← is) (more_levels d height left few v (rw (part_whole v) at good))) own

-- at depth 0 all levels are left
pub all_levels : levels - 0 ≡ 32
unfolding levels
all_levels = refl

-- ANSWERS, read back
pub told_fine : (own : ℕ) (x : Seen) {e : ℕ} → told own x ≡ accept (0 ∷ e ∷ []) → (x ≡ fine) × (own ≡ e)
told_fine own fine e = (refl, cc)
told_fine own (wrong c p a) e = let z : ◌≡◌ {A = ℕ} (length (a ∷ [])) 2 = cc in absurd (omega arith)

pub told_wrong : (own : ℕ) (x : Seen) {c p a : ℕ} → told own x ≡ gives c (a ∷ []) p → x ≡ wrong c p a
told_wrong own fine e = let z : ◌≡◌ {A = ℕ} 2 1 = cc in absurd (omega arith)
told_wrong own (wrong c p a) e = cc

-- A VALUE WHOSE OUTERMOST IS AN OBJECT: it has a byte, and bytes added leave it one
pub object_some : (s : List ℕ) {w : Widths} → head_of s ≡ header.Object w → 1 ≤ length s
object_some [] {w} e = absurd (omega (arith, (object_says 0 w e).0))
object_some (b ∷ s) e = omega arith

pub object_head : (s u : List ℕ) {w : Widths} → head_of s ≡ header.Object w → head_of (s ++ u) ≡ header.Object w
object_head s u e = ap header_of (List·getD-append s u 0 0 (object_some s e)) ∙ e

-- what its layer's checks refuse, it is refused with, at start 0
pub by_object : (d v : List ℕ) {w : Widths} → head_of v ≡ header.Object w → length v ≤ limit → {c p : ℕ} → object.checks d v ≡ stop c p → checks d v ≡ wrong c p 0
by_object d v {w} is fits {c} {p} e = go (dictionary.checks d) refl
  where
    go : (f : Found) → dictionary.checks d ≡ f → checks d v ≡ wrong c p 0
    go (stop c' p') x =
        let same = sym (object-laws.by_dictionary d v x) ∙ e in
        let c-is : c' ≡ c = cc in
        let p-is : p' ≡ p = cc in by_dictionary 0 d v x ∙ rw (c-is, p-is)
    go pass x = by_tree 0 d v x fits ∙ rw all_levels (tree_object d v 31 is ∙ own_stops (tree d 31) w v (field_end w v) e)
