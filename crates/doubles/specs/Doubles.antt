-- A name that stands twice (document 02, k: 26, a name equal to an earlier pair's). Assumes nothing.
use Rattle.std.specs.Prelude.{Bool, true, false, List, [], ◌∷◌, ℕ, ◌<◌}
use Rattle.rules.specs.Rules.{Rule, Found, first, each}
use Rattle.rules.specs.Rules.Rule.{◌⇒◌at◌}
use Rattle.rules.specs.Rules.Test.{is}
use Rattle.names.specs.Search.{Sought, seek}
use Rattle.names.specs.Search.Sought.{nowhere, here}
use Rattle.sets.specs.Sets.{Distinct, Numbered}

-- whether a number before k has the name of k
abbrev pub is_there : Sought → Bool
is_there nowhere = false
is_there (here j) = true

unfoldable pub seen : (ℕ → List ℕ) → ℕ → Bool
seen name k = is_there (seek name (name k) k)

-- 26, place the first number whose name an earlier one has
unfoldable pub double_rules : (ℕ → List ℕ) → ℕ → List Rule
double_rules name k = (is (seen name k) ⇒ 26 at k) ∷ []

unfoldable pub checks : (ℕ → List ℕ) → ℕ → Found
checks name n = first (each (double_rules name) n)

-- and in words: k is the first of n whose name an earlier one has
pub record Double (name : ℕ → List ℕ) (n k : ℕ) : Type 0 where
  pub inside : k < n
  pub is_first : Distinct name 0 k
  pub earlier : Numbered name 0 k (name k)
