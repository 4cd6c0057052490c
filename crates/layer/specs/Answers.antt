-- Document 01's number and place for each case of the refusals. Assumes nothing.
use Rattle.std.specs.Prelude.{ℕ}
use Rattle.rules.specs.Rules.{Answer, refuse}
use Rattle.dictionary.specs.Answers as dictionary
use Rattle.layout.specs.declared.Flaw.{Flaw}
use Rattle.layout.specs.declared.Flaw.TheVariants as flaw
use Rattle.layer.specs.declared.Refusal.{Refusal}
use Rattle.layer.specs.declared.Refusal.TheVariants.{Dictionary, TooLong, Empty, BasicType, Short, Sum, NoSuchEntry, NotAbove, Offset, EmptyChild}

-- number and place of each refusal; a dictionary's keeps its own
abbrev pub refusal_number : Refusal → ℕ
refusal_number (Dictionary r) = dictionary.refusal_number r
refusal_number TooLong = 20
refusal_number Empty = 21
refusal_number BasicType = 22
refusal_number Short = 23
refusal_number Sum = 24
refusal_number (NoSuchEntry k) = 25
refusal_number (NotAbove k) = 26
refusal_number (Offset k) = 27
refusal_number (EmptyChild k) = 28

abbrev pub refusal_place : Refusal → ℕ
refusal_place (Dictionary r) = dictionary.refusal_place r
refusal_place TooLong = 0
refusal_place Empty = 0
refusal_place BasicType = 0
refusal_place Short = 0
refusal_place Sum = 0
refusal_place (NoSuchEntry k) = k
refusal_place (NotAbove k) = k
refusal_place (Offset k) = k
refusal_place (EmptyChild k) = k

-- a layout's flaw is a refusal of the layer
abbrev pub of_layout : Flaw → Refusal
of_layout flaw.Cut = Short
of_layout flaw.Sum = Sum
of_layout flaw.Longer = Short

abbrev pub refused : Refusal → Answer
refused r = refuse (refusal_number r) (refusal_place r)
