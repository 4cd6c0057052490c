-- Document 01's number, values and place for each case of the answers. Assumes nothing.
use Rattle.std.specs.Prelude.{[], ◌∷◌, Result, Ok, Err}
use Rattle.rules.specs.Rules.{Answer, accept}
use Rattle.layer.specs.Answers.{refused}
use Rattle.layer.specs.declared.Layer.{Layer}
use Rattle.layer.specs.declared.Refusal.{Refusal}
use Rattle.object.specs.declared.Accepted.{Accepted}

-- what is told of a layer whose checks passed
abbrev pub accepted : Layer → Accepted
accepted l = record { count = l.count; start = l.start; end = l.end }

abbrev pub verdict_numbers : Result Accepted Refusal → Answer
verdict_numbers (Err r) = refused r
verdict_numbers (Ok a) = accept (a.count ∷ a.start ∷ a.end ∷ [])
