-- Document 02's number and place for each case of the refusals. Assumes nothing.
use Rattle.std.specs.Prelude.{ℕ}
use Rattle.layout.specs.declared.Flaw.{Flaw}
use Rattle.layout.specs.declared.Flaw.TheVariants as flaw
use Rattle.list.specs.declared.Refusal.{Refusal}
use Rattle.list.specs.declared.Refusal.TheVariants.{Short, Sum, Offset}

abbrev pub refusal_number : Refusal → ℕ
refusal_number Short = 60
refusal_number Sum = 61
refusal_number (Offset k) = 62

-- a layout's flaw is a refusal of the list
abbrev pub of_layout : Flaw → Refusal
of_layout flaw.Cut = Short
of_layout flaw.Sum = Sum
of_layout flaw.Longer = Short

abbrev pub refusal_place : Refusal → ℕ
refusal_place Short = 0
refusal_place Sum = 0
refusal_place (Offset k) = k
