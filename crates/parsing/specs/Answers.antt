-- Document 02's number for each case of the refusals, and what the answer says: a refusal's number, or how many steps and the names' total.
-- Assumes nothing.
use Rattle.std.specs.Prelude.{ℕ, Result, Ok, Err}
use Rattle.writing.specs.Written.{Sizes}
use Rattle.writing.specs.Written.Sizes.{bad, of}
use Rattle.parsing.specs.declared.Refusal.{Refusal}
use Rattle.parsing.specs.declared.Refusal.TheVariants.{NotUtf8, LeadingDot, TrailingDot, Unexpected, Unclosed, Bracket, NoRoom}
use Rattle.writing.specs.declared.Parsed.{Parsed}

abbrev pub refusal_number : Refusal → ℕ
refusal_number NotUtf8 = 70
refusal_number LeadingDot = 71
refusal_number TrailingDot = 72
refusal_number Unexpected = 73
refusal_number Unclosed = 74
refusal_number Bracket = 75
refusal_number NoRoom = 76

abbrev pub parse_numbers : Result Parsed Refusal → Sizes
parse_numbers (Err r) = bad (refusal_number r)
parse_numbers (Ok p) = of p.count p.total
