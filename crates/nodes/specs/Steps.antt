-- What the steps of the tree's check answer each other, in the words of Tree.antt. Assumes nothing.
use Rattle.std.specs.Prelude.{◌≡◌, true, cond, List, ℕ, suc, ◌+◌, ◌≤◌, ◌<◌, length, get_or, Option, Some, None, Result, Ok, Err}
use Rattle.part.specs.Part.{part}
use Rattle.rules.specs.Rules.Found.{pass}
use Rattle.dictionary.specs.declared.Header.{Header}
use Rattle.dictionary.specs.Limits.{limit}
use Rattle.dictionary.specs.Dictionary as dictionary
use Rattle.layout.specs.Layout.{count, child_start, end}
use Rattle.layout.specs.Steps.{Few, NumbersOf}
use Rattle.list.specs.List as list
use Rattle.fields.specs.Steps.{Over}
use Rattle.part.specs.declared.Span.{Span}
use Rattle.texts.specs.Known.{KnownOf}
use Rattle.nodes.specs.declared.Sound.{Sound}
use Rattle.nodes.specs.declared.Fault.{Fault}
use Rattle.nodes.specs.declared.Container.{Container}
use Rattle.nodes.specs.Tree.{from, children, field_end, element_end, tree}
use Rattle.nodes.specs.Tree.Seen.{fine, wrong}
use Rattle.nodes.specs.Meaning.{head_of, IsLeaf}
use Rattle.nodes.specs.Answers.{refusal_number, refusal_place}

-- a value from a to e in a whole within the limit, over a dictionary that passed
pub record Within (d : List ℕ) (h : Header) (w : List ℕ) (a e : ℕ) : Type 0 where
  pub over : Over d h
  pub limited : length w ≤ limit
  pub rises : a ≤ e
  pub inside : e ≤ length w

-- what a mark means: 1 + h at a start says that a value there, to some end, is good with h levels left
abbrev pub Marked : List ℕ → List ℕ → List ℕ → Type 0
Marked d w marks = (i h : ℕ) → get_or marks i 0 ≡ suc h → (e : ℕ) × (i ≤ e) × (e ≤ length w) × (tree d h (part w i e) ≡ fine)

-- what is remembered: of which starts a value is good, and which range is text
pub record Remembers (d w marks : List ℕ) (t : Span) : Type 0 where
  pub marked : Marked d w marks
  pub known : KnownOf w t

-- good with so many levels left, which are no more than there are; or the first refusal, its start said from the whole
abbrev pub CheckOf : (d : List ℕ) (left : ℕ) (w : List ℕ) (a e : ℕ) (marks : List ℕ) → Result Sound Fault → Type 0
CheckOf d left w a e marks (Ok good) = (good.height ≤ left) × (tree d good.height (part w a e) ≡ fine) × Remembers d w marks good.known
CheckOf d left w a e marks (Err bad) = from a (tree d left (part w a e)) ≡ wrong (refusal_number bad.refusal) (refusal_place bad.refusal) bad.start

-- what is recalled of the value from a to e: over any dictionary that passed and of which the marks speak
abbrev pub Recalls : (left : ℕ) (w : List ℕ) (a e : ℕ) (marks : List ℕ) → Option ℕ → Type 0
Recalls left w a e marks (Some h) =
    (h ≤ left) × ((d : List ℕ) → dictionary.checks d ≡ pass → length w ≤ limit → Marked d w marks → tree d h (part w a e) ≡ fine)
Recalls left w a e marks None = Unit {0}

-- a leaf's check: over any dictionary, with any levels left, and whatever is marked
abbrev pub LeafOf : (w : List ℕ) (a e : ℕ) → Result Sound Fault → Type 0
LeafOf w a e r = (d marks : List ℕ) (left : ℕ) → IsLeaf (head_of (part w a e)) → Marked d w marks → CheckOf d left w a e marks r

-- the levels below a container at a, of `left` with its own; or its refusal, whatever stands there
abbrev pub BelowOf : (left a : ℕ) → Result ℕ Fault → Type 0
BelowOf left a (Ok n) = left ≡ n + 1
BelowOf left a (Err bad) =
    (left ≡ 0) × (refusal_number bad.refusal ≡ 52) × (refusal_place bad.refusal ≡ 0) × (bad.start ≡ a)

-- where a container's child k ends
abbrev pub end_of : Container → List ℕ → ℕ → ℕ
end_of c s k = cond c.is_list (element_end c.widths s k) (field_end c.widths s k)

-- a container from a to e: its children lie within it
pub record Stands (w : List ℕ) (a e : ℕ) (c : Container) : Type 0 where
  pub rises : a ≤ e
  pub inside : e ≤ length w
  pub few : Few c.widths
  pub numbers : NumbersOf (part w a e) c.widths c.numbers
  pub listed : c.is_list ≡ true → list.checks c.widths (part w a e) ≡ pass
  pub child_rises : (k : ℕ) → k < count c.widths (part w a e) → child_start c.widths (part w a e) k ≤ end_of c (part w a e) k
  pub child_inside : (k : ℕ) → k < count c.widths (part w a e) → end_of c (part w a e) k ≤ end c.widths (part w a e)

-- one whose own checks passed: its children are what is left to check
pub record Opened (d w : List ℕ) (a e : ℕ) (c : Container) : Type 0 where
  pub stands : Stands w a e c
  pub only_children : (m : ℕ) → tree d (suc m) (part w a e) ≡ children (tree d m) c.widths (part w a e) (end_of c (part w a e))

-- what a container's own checks come to, with any levels left below it: a refusal is of the container itself
abbrev pub OpeningOf : (d w : List ℕ) (a e : ℕ) → Result Container Fault → Type 0
OpeningOf d w a e (Err bad) =
    (bad.start ≡ a) × ((left : ℕ) → from a (tree d (left + 1) (part w a e)) ≡ wrong (refusal_number bad.refusal) (refusal_place bad.refusal) bad.start)
OpeningOf d w a e (Ok c) = Opened d w a e c

-- a list's, over any dictionary
abbrev pub ListOpeningOf : (w : List ℕ) (a e : ℕ) → Result Container Fault → Type 0
ListOpeningOf w a e r = (d : List ℕ) → OpeningOf d w a e r

-- where child k stands in the whole
pub record ChildOf (w : List ℕ) (a e : ℕ) (c : Container) (k : ℕ) (r : Span) : Type 0 where
  pub start_is : r.start ≡ a + child_start c.widths (part w a e) k
  pub end_is : r.end ≡ a + end_of c (part w a e) k
  pub rises : r.start ≤ r.end
  pub inside : r.end ≤ e
