-- What the lookup of many names gives for each of them. Assumes nothing.
use Rattle.std.specs.Prelude.{List, [], ◌∷◌, ℕ, get_or}
use Rattle.rules.specs.Rules.{Answer}
use Rattle.rules.specs.Rules.Answer.{gives}

-- five words a name, what the lookup of that name alone answers: code (0 found, 1 absent), field, id, start, end; zeros on
-- absence
abbrev pub row_of : Answer → List ℕ
row_of (gives code values place) = code ∷ get_or values 0 0 ∷ get_or values 1 0 ∷ get_or values 2 0 ∷ get_or values 3 0 ∷ []
