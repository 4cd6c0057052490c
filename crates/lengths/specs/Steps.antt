-- What the steps of the own length answer, in the words of Lengths.antt. Assumes nothing.
use Rattle.std.specs.Prelude.{ℕ, Result}
use Rattle.rules.specs.Rules.{first}
use Rattle.lengths.specs.declared.Flaw.{Flaw}
use Rattle.lengths.specs.Lengths.{case_of, end_rules}

-- n bytes, where so many are at hand
abbrev pub sized : (len n : ℕ) → Result ℕ Flaw
sized len n = case_of (first (end_rules len n)) n
