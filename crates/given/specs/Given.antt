-- Names that are given to be written (document 02, j): a run of bytes, with ends in words of 32 bits. Bytes after the last end are ignored.
-- Assumes nothing.
use Rattle.std.specs.Prelude.{List, [], ◌∷◌, ◌++◌, ℕ, length}
use Rattle.rules.specs.Rules.{Rule, Found, first, each}
use Rattle.rules.specs.Rules.Rule.{◌⇒◌at◌}
use Rattle.rules.specs.Rules.Test.{◌<?◌}
use Rattle.chars.specs.Rfc3629.{text_up_to}
use Rattle.run.specs.Run.{name, end_rules}

-- 45, place the first name whose end falls or passes the run, or that isn't UTF-8
unfoldable pub name_rules : List ℕ → List ℕ → ℕ → List Rule
name_rules run ends k = end_rules run ends k ++ ((text_up_to (name run ends k) <? length (name run ends k) ⇒ 45 at k) ∷ [])

unfoldable pub checks : List ℕ → List ℕ → Found
checks run ends = first (each (name_rules run ends) (length ends))
