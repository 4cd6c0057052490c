-- Document 01's number, values and place for each case of the answers. Assumes nothing.
use Rattle.std.specs.Prelude.{[], ◌∷◌, Result, Ok, Err, Option, Some, None, ⊤}
use Rattle.rules.specs.Rules.{Answer, refuse, accept}
use Rattle.part.specs.declared.Span.{Span}
use Rattle.dictionary.specs.declared.Refusal.{Refusal}
use Rattle.dictionary.specs.Answers.{refused}
use Rattle.metadata.specs.declared.Accepted.{Accepted}
use Rattle.metadata.specs.declared.NoRoom.{NoRoom}

abbrev pub verdict_numbers : Result Accepted Refusal → Answer
verdict_numbers (Err r) = refused r
verdict_numbers (Ok a) = accept (a.count ∷ a.end ∷ [])

abbrev pub entry_numbers : Result (Option Span) Refusal → Answer
entry_numbers (Err r) = refused r
entry_numbers (Ok None) = refuse 31 0
entry_numbers (Ok (Some s)) = accept (s.start ∷ s.end ∷ [])

abbrev pub written_numbers : Result ⊤ NoRoom → Answer
written_numbers (Err _) = refuse 42 0
written_numbers (Ok _) = accept []
