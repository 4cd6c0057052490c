-- Document 02's number for each case of the refusals; their place is 0. Assumes nothing.
use Rattle.std.specs.Prelude.{ℕ}
use Rattle.lengths.specs.declared.Flaw.{Flaw}
use Rattle.lengths.specs.declared.Flaw.TheVariants as flaw
use Rattle.leaf.specs.declared.Refusal.{Refusal}
use Rattle.leaf.specs.declared.Refusal.TheVariants.{Short, Unknown, NotUtf8}

-- what a leaf with no own length is refused with
abbrev pub of_length : Flaw → Refusal
of_length flaw.Cut = Short
of_length flaw.Sum = Short
of_length flaw.Unknown = Unknown
of_length flaw.Longer = Short

abbrev pub refusal_number : Refusal → ℕ
refusal_number Short = 50
refusal_number Unknown = 51
refusal_number NotUtf8 = 54
