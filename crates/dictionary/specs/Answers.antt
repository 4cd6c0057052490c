-- Document 01's number and place for each refusal of a dictionary. Assumes nothing.
use Rattle.std.specs.Prelude.{ℕ}
use Rattle.rules.specs.Rules.{Answer, refuse}
use Rattle.dictionary.specs.declared.Refusal.{Refusal}
use Rattle.dictionary.specs.declared.Refusal.TheVariants.{TooLong, Empty, Version, Short, Sum, FirstOffset, NotUtf8, Range, NotAbove, CutText}

-- number and place of each refusal
abbrev pub refusal_number : Refusal → ℕ
refusal_number TooLong = 10
refusal_number Empty = 11
refusal_number Version = 12
refusal_number Short = 13
refusal_number Sum = 14
refusal_number FirstOffset = 15
refusal_number (NotUtf8 p) = 16
refusal_number (Range k) = 17
refusal_number (NotAbove k) = 18
refusal_number (CutText p) = 19

abbrev pub refusal_place : Refusal → ℕ
refusal_place TooLong = 0
refusal_place Empty = 0
refusal_place Version = 0
refusal_place Short = 0
refusal_place Sum = 0
refusal_place FirstOffset = 0
refusal_place (NotUtf8 p) = p
refusal_place (Range k) = k
refusal_place (NotAbove k) = k
refusal_place (CutText p) = p

abbrev pub refused : Refusal → Answer
refused r = refuse (refusal_number r) (refusal_place r)
