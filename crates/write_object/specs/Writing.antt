-- Writing an object layer (document 02, k): the checks in their order, and the answers. d is the dictionary's bytes, `words` the pairs.
-- Assumes nothing.
use Rattle.std.specs.Prelude.{List, [], ◌∷◌, ◌++◌, ℕ, length, drop}
use Rattle.rules.specs.Rules.{Answer, Rule, Found, accept, first, ◌or_else◌, ◌otherwise◌, unless_refused}
use Rattle.rules.specs.Rules.Rule.{◌⇒◌at◌}
use Rattle.rules.specs.Rules.Test.{◌<?◌}
use Rattle.dictionary.specs.Limits.{limit}
use Rattle.dictionary.specs.Dictionary as dictionary
use Rattle.source.specs.Pairs.{pairs}
use Rattle.doubles.specs.Doubles as doubles
use Rattle.pairs.specs.Checks.{pair_name, id_checks, range_checks, empty_checks}
use Rattle.builder.specs.Bytes.{object, start, size}

-- THE CHECKS, IN ORDER

-- of the result: 20 for one over the limit, 46 for room below the needed size
abbrev pub size_rules : ℕ → ℕ → List Rule
size_rules needed room =
    (limit <? needed ⇒ 20 at 0)
    ∷ (room <? needed ⇒ 46 at 0)
    ∷ []

unfoldable pub size_checks : ℕ → List ℕ → Found
size_checks needed room = first (size_rules needed (length room))

-- the dictionary's come first; then 25, 26, 45 and 28, each over all pairs before the next
unfoldable pub checks : List ℕ → List ℕ → List ℕ → List ℕ → Found
checks d bytes words room =
    dictionary.checks d
    or_else id_checks d words
    or_else doubles.checks (pair_name d words) (pairs words)
    or_else range_checks bytes words
    or_else empty_checks words
    or_else size_checks (size d bytes words) room

-- ANSWERS

-- how many fields, where the region starts, and its length
unfoldable pub written : List ℕ → List ℕ → List ℕ → List ℕ → Answer
written d bytes words room = checks d bytes words room otherwise accept (pairs words ∷ start d bytes words ∷ size d bytes words ∷ [])

-- the object at the front of the room, bytes after it stay; a refusal writes nothing
unfoldable pub room_after : List ℕ → List ℕ → List ℕ → List ℕ → List ℕ
room_after d bytes words room =
    unless_refused (checks d bytes words room) (object d bytes words ++ drop (size d bytes words) room) room
