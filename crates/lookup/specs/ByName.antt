-- Lookup by name and the child view (document 01, "Answers" and "Child view"; the id is request c) of document 02): d is the dictionary's
-- bytes, o the object's, q the query. Assumes nothing.
use Rattle.std.specs.Prelude.{List, [], ◌∷◌, ℕ, ◌+◌, get_or}
use Rattle.names.specs.Search.{Sought, seek}
use Rattle.names.specs.Search.Sought.{nowhere, here}
use Rattle.rules.specs.Rules.{Answer, accept, ◌otherwise◌}
use Rattle.rules.specs.Rules.Answer.{gives}
use Rattle.dictionary.specs.Limits.{limit}
use Rattle.layer.specs.Object.{count, id, offset, start, end, field_name, checks_within}

-- Found gives field, the field's id, start and end, these two counted from the object's first byte; absent is 1
abbrev pub absent : Answer
absent = gives 1 [] 0

abbrev pub found : List ℕ → Sought → Answer
found o nowhere = absent
found o (here k) = accept (k ∷ id o k ∷ (start o + offset o k) ∷ end o ∷ [])

-- where `most` is the longest that is read, and at the limit
unfoldable pub lookup_within : ℕ → List ℕ → List ℕ → List ℕ → Answer
lookup_within most d o q = checks_within most d o otherwise found o (seek (field_name d o) q (count o))

abbrev pub lookup : List ℕ → List ℕ → List ℕ → Answer
lookup d o q = lookup_within limit d o q

-- Child view: where the found child starts and ends; on absence or refusal the empty part at the object's start
abbrev pub start_of : Answer → ℕ
start_of (gives code values place) = get_or values 2 0

abbrev pub end_of : Answer → ℕ
end_of (gives code values place) = get_or values 3 0
