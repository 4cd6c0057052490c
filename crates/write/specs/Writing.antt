-- Writing a dictionary (document 02, j): the names, each once, the checks in their order, and the answers. Assumes nothing.
use Rattle.std.specs.Prelude.{List, [], ◌∷◌, ◌++◌, ℕ, length, drop}
use Rattle.rules.specs.Rules.{Answer, Rule, Found, accept, first, ◌or_else◌, ◌otherwise◌}
use Rattle.rules.specs.Rules.Rule.{◌⇒◌at◌}
use Rattle.rules.specs.Rules.Test.{◌<?◌}
use Rattle.rules.specs.Rules.Found.{pass, stop}
use Rattle.dictionary.specs.Limits.{limit}
use Rattle.given.specs.Given as given
use Rattle.fill.specs.Bytes.{dictionary, size}
use Rattle.fill.specs.Steps.{list_of}

-- THE CHECKS, IN ORDER

-- of the result: 10 for one over the limit, 46 for room below the needed size
abbrev pub size_rules : ℕ → ℕ → List Rule
size_rules needed room =
    (limit <? needed ⇒ 10 at 0)
    ∷ (room <? needed ⇒ 46 at 0)
    ∷ []

unfoldable pub size_checks : List (List ℕ) → List ℕ → Found
size_checks names room = first (size_rules (size names) (length room))

-- 45 is checked first
unfoldable pub checks : List ℕ → List ℕ → List ℕ → Found
checks run ends room = given.checks run ends or_else size_checks (list_of run ends) room

-- ANSWERS

-- how many names, and its length
unfoldable pub written : List ℕ → List ℕ → List ℕ → Answer
written run ends room = checks run ends room otherwise accept (length (list_of run ends) ∷ size (list_of run ends) ∷ [])

-- the dictionary at the front of the room, bytes after it stay; a refusal writes nothing
abbrev pub filled_by : Found → List (List ℕ) → List ℕ → List ℕ
filled_by pass names room = dictionary names ++ drop (size names) room
filled_by (stop code place) names room = room

unfoldable pub room_after : List ℕ → List ℕ → List ℕ → List ℕ
room_after run ends room = filled_by (checks run ends room) (list_of run ends) room
