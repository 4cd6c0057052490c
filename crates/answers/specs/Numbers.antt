-- An answer's six numbers as a list. Assumes nothing.
use Rattle.std.specs.Prelude.{List, [], ◌∷◌, ℕ}
use Rattle.answers.specs.declared.Answer.{Answer}

abbrev pub numbers_of : Answer → List ℕ
numbers_of a = a.code ∷ a.number ∷ a.id ∷ a.start ∷ a.end ∷ a.place ∷ []
