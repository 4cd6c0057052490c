-- Document 02's number for each case of the refusals. Assumes nothing.
use Rattle.std.specs.Prelude.{ℕ}
use Rattle.steps.specs.declared.Refusal.{Refusal}
use Rattle.steps.specs.declared.Refusal.TheVariants.{TrailingDot, Unexpected, Unclosed, Bracket}

abbrev pub refusal_number : Refusal → ℕ
refusal_number TrailingDot = 72
refusal_number Unexpected = 73
refusal_number Unclosed = 74
refusal_number Bracket = 75
