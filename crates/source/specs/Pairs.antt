-- Pairs of a field's id and its child's place in lent bytes (document 02, k): words id, start, end, three a pair; a cut last one is ignored.
-- Assumes nothing.
use Rattle.std.specs.Prelude.{List, ℕ, ◌+◌, ◌*◌, ◌/◌, length, get_or}
use Rattle.part.specs.Part.{part}

-- how many pairs there are
abbrev pub pairs : List ℕ → ℕ
pairs words = length words / 3

-- the words of pair k
abbrev pub id : List ℕ → ℕ → ℕ
id words k = get_or words (3 * k) 0

abbrev pub from : List ℕ → ℕ → ℕ
from words k = get_or words (3 * k + 1) 0

abbrev pub to : List ℕ → ℕ → ℕ
to words k = get_or words (3 * k + 2) 0

-- its child
unfoldable pub child : List ℕ → List ℕ → ℕ → List ℕ
child bytes words k = part bytes (from words k) (to words k)
