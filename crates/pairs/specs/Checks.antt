-- Pairs over a dictionary that are to be written as fields (document 02, k): their names, and three of their four checks, each over all pairs
-- before the next; the place is the first such pair. 26, between the first of these and the others, stands in `doubles`. d is the
-- dictionary's bytes. Assumes nothing.
use Rattle.std.specs.Prelude.{List, [], ◌∷◌, ℕ, zero, suc, max, length}
use Rattle.rules.specs.Rules.{Rule, Found, first, each}
use Rattle.rules.specs.Rules.Rule.{◌⇒◌at◌}
use Rattle.rules.specs.Rules.Test.{◌<?◌, ◌≤?◌, ◌or◌}
use Rattle.dictionary.specs.Dictionary as dictionary
use Rattle.source.specs.Pairs.{pairs, id, from, to}

-- a pair's name is the dictionary's at its id
unfoldable pub pair_name : List ℕ → List ℕ → ℕ → List ℕ
pair_name d words k = dictionary.name d (id words k)

-- 25: the id is at or above the entry count
unfoldable pub id_rules : List ℕ → List ℕ → ℕ → List Rule
id_rules d words k = (dictionary.count d ≤? id words k ⇒ 25 at k) ∷ []

unfoldable pub id_checks : List ℕ → List ℕ → Found
id_checks d words = first (each (id_rules d words) (pairs words))

-- 45: the child's range falls, or passes the lent bytes
unfoldable pub range_rules : List ℕ → List ℕ → ℕ → List Rule
range_rules bytes words k = ((to words k <? from words k) or (length bytes <? to words k) ⇒ 45 at k) ∷ []

unfoldable pub range_checks : List ℕ → List ℕ → Found
range_checks bytes words = first (each (range_rules bytes words) (pairs words))

-- 28: the child is empty (where no range falls, its end is its start)
unfoldable pub empty_rules : List ℕ → ℕ → List Rule
empty_rules words k = (to words k ≤? from words k ⇒ 28 at k) ∷ []

unfoldable pub empty_checks : List ℕ → Found
empty_checks words = first (each (empty_rules words) (pairs words))

-- the largest id of the first n pairs, 0 of none
unfoldable pub largest : List ℕ → ℕ → ℕ
largest words zero = 0
largest words (suc n) = max (largest words n) (id words n)
