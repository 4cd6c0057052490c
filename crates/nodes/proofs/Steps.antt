-- What the steps of the check go by: a leaf, and the children of a container: the first of them are good, and the next
-- one decides. Assumes nothing.
use Rattle.rules.proofs.Prelude.{◌≡◌, sym, ap, ◌∙◌, List, ℕ, ◌+◌, ◌≤◌, ◌<◌, arith, get_or, pass, stop, add-one, and_last}
use Rattle.part.specs.Part.{part}
use Rattle.part.proofs.Laws.{part_part}
use Rattle.layout.specs.Layout.{count, child_start}
use Rattle.encoding.specs.declared.Header.{Header}
use Rattle.encoding.specs.Encoding.{header_of}
use Rattle.part.specs.declared.Span.{Span}
use Rattle.texts.specs.Known.{KnownOf}
use Rattle.leaf.specs.Leaf.{leaf}
use Rattle.std.specs.Prelude.{Ok, Err}
use Rattle.nodes.specs.declared.Container.{Container}
use Rattle.nodes.specs.declared.Fault.{Fault}
use Rattle.nodes.specs.Tree.{from, tree}
use Rattle.nodes.specs.Tree.Seen.{fine, wrong}
use Rattle.nodes.specs.Meaning.{head_of, IsLeaf, child_of}
use Rattle.nodes.specs.Steps.{Marked, LeafOf, BelowOf, end_of, Opened, ChildOf}
use Rattle.nodes.specs.Answers.{refusal_number, refusal_place}
use Rattle.nodes.proofs.Laws.{from_wrong, at_start, wrong_from, here_pass, here_stop, tree_leaf, children_fine, child_wrong, more_levels}

-- what a value's first byte says
pub head_is : (s : List ℕ) {b : ℕ} {r h : Header} → r ≡ header_of b → b ≡ get_or s 0 0 → r ≡ h → head_of s ≡ h
head_is s says first is = sym (says ∙ ap header_of first) ∙ is

-- a container at which no level is left is refused before its own checks
pub too_deep_law : (d s : List ℕ) (a left : ℕ) (bad : Fault) → BelowOf left a (Err bad) → tree d 0 s ≡ wrong 52 0 0
    → from a (tree d left s) ≡ wrong (refusal_number bad.refusal) (refusal_place bad.refusal) bad.start
too_deep_law d s a left bad b e = rw (b.0, b.1, b.2, b.3) (at_start a e)

-- A LEAF from a to e of the whole
module _ (w : List ℕ) (a e : ℕ) where
  pub leaf_bad : {c : ℕ} → leaf (part w a e) ≡ stop c 0 → (d marks : List ℕ) (left : ℕ) → IsLeaf (head_of (part w a e)) → Marked d w marks
      → from a (tree d left (part w a e)) ≡ wrong c 0 a
  leaf_bad f d marks left l m = at_start a (tree_leaf d (part w a e) left l ∙ here_stop f)

  pub small_good : (d : List ℕ) → IsLeaf (head_of (part w a e)) × (leaf (part w a e) ≡ pass) → tree d 0 (part w a e) ≡ fine
  small_good d small = tree_leaf d (part w a e) 0 small.0 ∙ here_pass small.1

  pub leaf_good : (t : Span) → leaf (part w a e) ≡ pass → KnownOf w t → LeafOf w a e (Ok (record { height = 0; known = t }))
  leaf_good t f known d marks left l m = (omega arith, small_good d (l, f), record { marked = m; known = known })

-- the first k children are good with so many levels left
abbrev pub Before : (d w : List ℕ) (a e : ℕ) → Container → (height k : ℕ) → Type 0
Before d w a e c height k = (j : ℕ) → j < k → tree d height (child_of c.widths (part w a e) (end_of c (part w a e)) j) ≡ fine

module _ (d w : List ℕ) (a e : ℕ) (c : Container) (o : Opened d w a e c) where
  -- the child's bytes are the whole's
  child_is : (k : ℕ) (r : Span) → ChildOf w a e c k r → child_of c.widths (part w a e) (end_of c (part w a e)) k ≡ part w r.start r.end
  child_is k r h =
      part_part w a e (child_start c.widths (part w a e) k) (end_of c (part w a e) k) (omega (arith, h.end_is, h.inside))
      ∙ rw (h.start_is, h.end_is)

  -- one more is good
  pub before_more : (height below most k : ℕ) (r : Span) → ChildOf w a e c k r → height ≤ most → below ≤ most → Before d w a e c height k
      → tree d below (part w r.start r.end) ≡ fine → Before d w a e c most (k + 1)
  before_more height below most k r h p q before good =
      rw (add-one k)
      (and_last (λ j. tree d most (child_of c.widths (part w a e) (end_of c (part w a e)) j) ≡ fine) k
      (λ j i. more_levels d height most p _ (before j i)) (more_levels d below most q _ (rw (child_is k r h) good)))

  -- all are: the container is good by a level more
  pub all_good : (height : ℕ) → Before d w a e c height (count c.widths (part w a e)) → tree d (height + 1) (part w a e) ≡ fine
  all_good height before = rw (add-one height) (o.only_children height ∙ children_fine (tree d height) c.widths (part w a e) (end_of c (part w a e)) before)

  -- the first that is refused: its refusal is the container's
  pub first_bad : (left height k : ℕ) (r : Span) {code place at : ℕ} → ChildOf w a e c k r → k < count c.widths (part w a e) → height ≤ left
      → Before d w a e c height k → from r.start (tree d left (part w r.start r.end)) ≡ wrong code place at
      → from a (tree d (left + 1) (part w a e)) ≡ wrong code place at
  first_bad left height k r {code} {place} {at} h below few before bad =
      let low = child_start c.widths (part w a e) k in
      let inner = wrong_from r.start (tree d left (part w r.start r.end)) bad in
      let place_is : a + (low + inner.0) ≡ at = omega (arith, inner.2, h.start_is) in
      rw (add-one left)
      (from_wrong a (o.only_children left
      ∙ child_wrong (tree d left) c.widths (part w a e) (end_of c (part w a e)) k below (λ j i. more_levels d height left few _ (before j i))
      (ap (tree d left) (child_is k r h) ∙ inner.1))
      ∙ rw place_is)
