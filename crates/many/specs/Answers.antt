-- Document 01's number, values and place for each case of the answer of many names. Assumes nothing.
use Rattle.std.specs.Prelude.{[], ◌∷◌, Result, Ok, Err}
use Rattle.rules.specs.Rules.{Answer, refuse, accept}
use Rattle.layer.specs.Answers.{refused}
use Rattle.object.specs.declared.Accepted.{Accepted}
use Rattle.many.specs.declared.Refusal.{Refusal}
use Rattle.many.specs.declared.Refusal.TheVariants.{BadEnd, Layer, NoRoom}

abbrev pub lookups_numbers : Result Accepted Refusal → Answer
lookups_numbers (Err (BadEnd k)) = refuse 45 k
lookups_numbers (Err (Layer r)) = refused r
lookups_numbers (Err NoRoom) = refuse 41 0
lookups_numbers (Ok a) = accept (a.count ∷ a.start ∷ a.end ∷ [])
