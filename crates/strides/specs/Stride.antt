-- One step of a path: a single lookup, of a name in an object or of an index in a list (document 02, i). d is the dictionary's bytes, v those
-- of the value that is stepped into. Assumes nothing.
use Rattle.std.specs.Prelude.{cond, List, ℕ, eqb}
use Rattle.rules.specs.Rules.{Answer, refuse, ◌otherwise◌}
use Rattle.rules.specs.Rules.Answer.{gives}
use Rattle.dictionary.specs.Dictionary as dictionary
use Rattle.lookup.specs.ByName.{lookup}
use Rattle.elements.specs.Element.{element}
use Rattle.steps.specs.Path.{Step}
use Rattle.steps.specs.Path.Step.{named, indexed}

-- A SINGLE LOOKUP: found gives field or index, id or 0, start and end, these two counted from v's first byte; 1 is absence
abbrev pub single : (d v : List ℕ) → Step → Answer
single d v (named q) = lookup d v q
single d v (indexed n) = dictionary.checks d otherwise element v n

-- the wrong kind: 53 with the step's number stands for 22
abbrev pub as_step : (number : ℕ) → Answer → Answer
as_step number (gives code values place) = cond (eqb code 22) (refuse 53 number) (gives code values place)

unfoldable pub stride : (d v : List ℕ) (number : ℕ) → Step → Answer
stride d v number x = as_step number (single d v x)
