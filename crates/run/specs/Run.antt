-- A run of names: their bytes one after another, and in words of 32 bits where each ends, as request j) of document 02 has them. Bytes after
-- the last end are ignored. Assumes nothing.
use Rattle.std.specs.Prelude.{List, [], ◌∷◌, ℕ, zero, suc, length, get_or}
use Rattle.part.specs.Part.{part}
use Rattle.rules.specs.Rules.{Rule, Found, first, each}
use Rattle.rules.specs.Rules.Rule.{◌⇒◌at◌}
use Rattle.rules.specs.Rules.Test.{◌<?◌, ◌or◌}

-- a name begins where the one before ends
unfoldable pub begin : List ℕ → ℕ → ℕ
begin ends zero = 0
begin ends (suc k) = get_or ends k 0

abbrev pub end : List ℕ → ℕ → ℕ
end ends k = get_or ends k 0

unfoldable pub name : List ℕ → List ℕ → ℕ → List ℕ
name run ends k = part run (begin ends k) (end ends k)

-- 45, place the first name whose end falls or passes the run
unfoldable pub end_rules : List ℕ → List ℕ → ℕ → List Rule
end_rules run ends k = ((end ends k <? begin ends k) or (length run <? end ends k) ⇒ 45 at k) ∷ []

unfoldable pub checks : List ℕ → List ℕ → Found
checks run ends = first (each (end_rules run ends) (length ends))
