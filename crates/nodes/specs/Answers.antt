-- Document 01's and 02's number and place for each case of the refusals. Assumes nothing.
use Rattle.std.specs.Prelude.{ℕ}
use Rattle.layer.specs.Answers as layer
use Rattle.list.specs.Answers as list
use Rattle.leaf.specs.Answers as leaf
use Rattle.dictionary.specs.declared.Refusal.{Refusal as DictionaryRefusal}
use Rattle.layer.specs.declared.Refusal.TheVariants.{Dictionary}
use Rattle.nodes.specs.declared.Refusal.{Refusal}
use Rattle.nodes.specs.declared.Refusal.TheVariants.{Layer, List as OfList, Leaf, TooDeep}
use Rattle.nodes.specs.declared.Fault.{Fault}

abbrev pub refusal_number : Refusal → ℕ
refusal_number (Layer r) = layer.refusal_number r
refusal_number (OfList r) = list.refusal_number r
refusal_number (Leaf r) = leaf.refusal_number r
refusal_number TooDeep = 52

abbrev pub refusal_place : Refusal → ℕ
refusal_place (Layer r) = layer.refusal_place r
refusal_place (OfList r) = list.refusal_place r
refusal_place (Leaf r) = 0
refusal_place TooDeep = 0

-- a dictionary's refusal is of no value: its start is 0
abbrev pub of_dictionary : DictionaryRefusal → Fault
of_dictionary r = record { refusal = Layer (Dictionary r); start = 0 }
