-- Document 02's number, values and place for each case of the answer. Assumes nothing.
use Rattle.std.specs.Prelude.{[], ◌∷◌, Result, Ok, Err}
use Rattle.rules.specs.Rules.{Answer, refuse, accept}
use Rattle.dictionary.specs.Answers as dictionary
use Rattle.write_object.specs.declared.Built.{Built}
use Rattle.write_object.specs.declared.Refusal.{Refusal}
use Rattle.write_object.specs.declared.Refusal.TheVariants as refusal

abbrev pub built_numbers : Result Built Refusal → Answer
built_numbers (Err (refusal.Dictionary r)) = dictionary.refused r
built_numbers (Err (refusal.NoSuchEntry k)) = refuse 25 k
built_numbers (Err (refusal.Double k)) = refuse 26 k
built_numbers (Err (refusal.Outside k)) = refuse 45 k
built_numbers (Err (refusal.EmptyChild k)) = refuse 28 k
built_numbers (Err refusal.TooLong) = refuse 20 0
built_numbers (Err refusal.NoRoom) = refuse 46 0
built_numbers (Ok b) = accept (b.count ∷ b.start ∷ b.length ∷ [])
