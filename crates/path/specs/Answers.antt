-- The documents' number, values and place for each case of the answer. Assumes nothing.
use Rattle.std.specs.Prelude.{Option, Result, Ok, Err}
use Rattle.rules.specs.Rules.{Answer, refuse}
use Rattle.lookup.specs.declared.Found.{Found}
use Rattle.parsing.specs.Answers.{refusal_number}
use Rattle.strides.specs.Answers.{refused, stride_numbers}
use Rattle.path.specs.declared.Refusal.{Refusal}
use Rattle.path.specs.declared.Refusal.TheVariants.{Path, Step}

abbrev pub asked_numbers : Result (Option Found) Refusal → Answer
asked_numbers (Err (Path r)) = refuse (refusal_number r) 0
asked_numbers (Err (Step r)) = refused r
asked_numbers (Ok found) = stride_numbers (Ok found)
