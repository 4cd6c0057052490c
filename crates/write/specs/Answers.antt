-- Document 02's number, values and place for each case of the answer. Assumes nothing.
use Rattle.std.specs.Prelude.{[], ◌∷◌, Result, Ok, Err}
use Rattle.rules.specs.Rules.{Answer, refuse, accept}
use Rattle.write.specs.declared.Written.{Written}
use Rattle.write.specs.declared.Refusal.{Refusal}
use Rattle.write.specs.declared.Refusal.TheVariants as refusal

abbrev pub written_numbers : Result Written Refusal → Answer
written_numbers (Err (refusal.BadName k)) = refuse 45 k
written_numbers (Err refusal.TooLong) = refuse 10 0
written_numbers (Err refusal.NoRoom) = refuse 46 0
written_numbers (Ok w) = accept (w.count ∷ w.length ∷ [])
