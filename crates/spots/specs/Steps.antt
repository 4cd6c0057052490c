-- What the steps of a search for four names answer each other. Assumes nothing.
use Rattle.std.specs.Prelude.{◌≡◌, List, ℕ, ◌+◌, ◌%◌, ◌≤◌, ◌<◌, length}
use Rattle.keys.specs.Steps.{KeyOf}
use Rattle.run.specs.Run.{begin, name}
use Rattle.layer.specs.Object.{count}
use Rattle.lookup.specs.Steps.{AllAbove}
use Rattle.spots.specs.declared.Spot.{Spot}
use Rattle.spots.specs.declared.Four.{Four}

-- a step up was taken, or the name there has a key above the query's
pub data Probed (name : List ℕ) (key at step : ℕ) : ℕ → Type 0 where
  taken : Probed name key at step (at + step)
  kept : {p : ℕ} → KeyOf name p → key < p → Probed name key at step at

-- the field at the spot is the last that may be the query's, if there is a field
pub record SpotOf (d o q : List ℕ) (s : Spot) : Type 0 where
  pub key_is : KeyOf q s.key
  pub inside : 0 < count o → s.at < count o
  pub above : AllAbove d o q (s.at + 1)

-- name k begins there
pub record NameAt (ends : List ℕ) (k from : ℕ) : Type 0 where
  pub is_name : k < length ends
  pub begins : from ≡ begin ends k

-- the spot of name k; and those of the names after it in its four
pub record SpotsOf (d o names ends : List ℕ) (k : ℕ) (t : Four) : Type 0 where
  pub this : SpotOf d o (name names ends k) t.first
  pub next : k % 4 ≤ 2 → k + 1 < length ends → SpotOf d o (name names ends (k + 1)) t.second
  pub third : k % 4 ≤ 1 → k + 2 < length ends → SpotOf d o (name names ends (k + 2)) t.third
  pub fourth : k % 4 ≡ 0 → k + 3 < length ends → SpotOf d o (name names ends (k + 3)) t.fourth

-- what was found before of them, where name k is not the first of its four
pub record Ahead (d o names ends : List ℕ) (k : ℕ) (t : Four) : Type 0 where
  pub this : 1 ≤ k % 4 → k < length ends → SpotOf d o (name names ends k) t.first
  pub next : 1 ≤ k % 4 → k % 4 ≤ 2 → k + 1 < length ends → SpotOf d o (name names ends (k + 1)) t.second
  pub third : k % 4 ≡ 1 → k + 2 < length ends → SpotOf d o (name names ends (k + 2)) t.third
