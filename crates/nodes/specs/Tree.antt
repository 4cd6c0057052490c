-- The check of a whole tree (document 02, h): a value is an object, a list or a leaf; an object checks its children as values, and a list does
-- the same. d is the dictionary's bytes, s those that begin with a value. Assumes nothing.
use Rattle.std.specs.Prelude.{List, [], ◌∷◌, ℕ, zero, suc, ◌+◌, ◌-◌, length, get_or}
use Rattle.part.specs.Part.{part}
use Rattle.rules.specs.Rules.{Answer, Found, accept, first}
use Rattle.rules.specs.Rules.Answer.{gives}
use Rattle.rules.specs.Rules.Found.{pass, stop}
use Rattle.rules.specs.Rules.Rule.{◌⇒◌at◌}
use Rattle.rules.specs.Rules.Test.{◌<?◌}
use Rattle.dictionary.specs.Limits.{limit}
use Rattle.dictionary.specs.Dictionary as dictionary
use Rattle.layout.specs.declared.Widths.{Widths}
use Rattle.layout.specs.Layout.{count, child_start, end}
use Rattle.encoding.specs.declared.Header.{Header}
use Rattle.encoding.specs.declared.Header.TheVariants as header
use Rattle.encoding.specs.Encoding.{header_of}
use Rattle.lengths.specs.Lengths.{own_length, bytes_of}
use Rattle.layer.specs.Object as object
use Rattle.list.specs.List as list
use Rattle.leaf.specs.Leaf.{leaf}

infixr 12 ◌and_then◌
-- WHAT A CHECK COMES TO: fine, or the first refusal: its number, its place in its own layer, and where that value starts
pub data Seen : Type 0 where
  fine : Seen
  wrong : (code place start : ℕ) → Seen

-- the next check, where the one before is fine
unfoldable pub ◌and_then◌ : Seen → Seen → Seen
◌and_then◌ fine next = next
◌and_then◌ (wrong code place start) next = wrong code place start

-- what is found of the value at hand itself
unfoldable pub here : Found → Seen
here pass = fine
here (stop code place) = wrong code place 0

-- what is found in a part that starts at a, said from the whole
unfoldable pub from : ℕ → Seen → Seen
from a fine = fine
from a (wrong code place start) = wrong code place (a + start)

-- one after another, the first n
unfoldable pub in_order : (ℕ → Seen) → ℕ → Seen
in_order f zero = fine
in_order f (suc n) = in_order f n and_then f n

-- A LAYER: its own checks come first, then its children in order, each by `check`; child k runs to `high k`
unfoldable pub child : (check : List ℕ → Seen) → Widths → List ℕ → (high : ℕ → ℕ) → ℕ → Seen
child check w s high k = from (child_start w s k) (check (part s (child_start w s k) (high k)))

unfoldable pub children : (check : List ℕ → Seen) → Widths → List ℕ → (high : ℕ → ℕ) → Seen
children check w s high = in_order (child check w s high) (count w s)

unfoldable pub layered : (check : List ℕ → Seen) → Found → Widths → List ℕ → (high : ℕ → ℕ) → Seen
layered check own w s high = here own and_then children check w s high

-- an object's own checks are its layer's, over the dictionary; each child runs to the trimmed end
abbrev pub field_end : Widths → List ℕ → ℕ → ℕ
field_end w s k = end w s

unfoldable pub object_by : (List ℕ → Seen) → List ℕ → Widths → List ℕ → Seen
object_by check d w s = layered check (object.checks d s) w s (field_end w s)

-- a list's element runs to the next offset
abbrev pub element_end : Widths → List ℕ → ℕ → ℕ
element_end w s k = child_start w s (k + 1)

unfoldable pub list_by : (List ℕ → Seen) → Widths → List ℕ → Seen
list_by check w s = layered check (list.checks w s) w s (element_end w s)

-- A VALUE, by what its header byte says; of no bytes it is that of a leaf
unfoldable pub value_by : (object list : Widths → Seen) → Header → List ℕ → Seen
value_by object list (header.Primitive t) s = here (leaf s)
value_by object list (header.ShortString n) s = here (leaf s)
value_by object list (header.Object w) s = object w
value_by object list (header.List w) s = list w

-- where no level of containers may come any more, one is refused with 52 before its own checks
abbrev pub too_deep : Widths → Seen
too_deep w = wrong 52 0 0

-- A TREE: a value below which so many levels of containers may come, itself among them
unfoldable pub tree : List ℕ → ℕ → List ℕ → Seen
tree d zero s = value_by too_deep too_deep (header_of (get_or s 0 0)) s
tree d (suc n) s = value_by (λ w. object_by (tree d n) d w s) (λ w. list_by (tree d n) w s) (header_of (get_or s 0 0)) s

-- THE WHOLE: the dictionary comes first, then 20 for the whole value. The outermost value is at depth 0; a container at depth 32 is refused
unfoldable pub levels : ℕ
levels = 32

-- a value that is met at this depth
unfoldable pub checks_at : (depth : ℕ) → List ℕ → List ℕ → Seen
checks_at depth d v = here (dictionary.checks d) and_then here (first ((limit <? length v ⇒ 20 at 0) ∷ [])) and_then tree d (levels - depth) v

abbrev pub checks : List ℕ → List ℕ → Seen
checks d v = checks_at 0 d v

-- ANSWERS: start and end of an accepted tree, which are 0 and the value's own length; of a refusal the start of the value that it is of
abbrev pub told : (own : ℕ) → Seen → Answer
told own fine = accept (0 ∷ own ∷ [])
told own (wrong code place start) = gives code (start ∷ []) place

unfoldable pub verdict_at : (depth : ℕ) → List ℕ → List ℕ → Answer
verdict_at depth d v = told (bytes_of (own_length v)) (checks_at depth d v)

abbrev pub verdict : List ℕ → List ℕ → Answer
verdict d v = verdict_at 0 d v
