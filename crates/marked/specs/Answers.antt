-- The number, the values and the place of the verdict: 0 and the own length of a value that is accepted, and the start that a refusal is of. Assumes nothing.
use Rattle.std.specs.Prelude.{[], ◌∷◌, ℕ, Result, Ok, Err}
use Rattle.rules.specs.Rules.{Answer, accept}
use Rattle.rules.specs.Rules.Answer.{gives}
use Rattle.nodes.specs.declared.Fault.{Fault}
use Rattle.nodes.specs.Answers.{refusal_number, refusal_place}

abbrev pub verdict_numbers : Result ℕ Fault → Answer
verdict_numbers (Err bad) = gives (refusal_number bad.refusal) (bad.start ∷ []) (refusal_place bad.refusal)
verdict_numbers (Ok end) = accept (0 ∷ end ∷ [])
