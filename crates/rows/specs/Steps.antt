-- What the steps of a row answer each other. Assumes nothing.
use Rattle.std.specs.Prelude.{List, [], ◌∷◌, ℕ, ◌+◌, ◌≤◌, ◌<◌}
use Rattle.layer.specs.Object.{count, offset, start, end}
use Rattle.names.specs.Search.{Sought}
use Rattle.names.specs.Search.Sought.{nowhere, here}
use Rattle.rows.specs.declared.Row.{Row}

-- what was found is a field whose child lies in the object
abbrev pub InLayer : List ℕ → Sought → Type 0
InLayer o nowhere = Unit {0}
InLayer o (here k) = (k < count o) × (start o + offset o k ≤ end o)

-- a row's words
abbrev pub words_of : Row → List ℕ
words_of r = r.code ∷ r.field ∷ r.id ∷ r.start ∷ r.end ∷ []
