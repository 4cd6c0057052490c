-- What good ends are, and when 45 is due. proofs/Means.antt shows that the checks of Run.antt say the same. Assumes nothing.
use Rattle.std.specs.Prelude.{◌⊎◌, List, ℕ, ◌≤◌, ◌<◌, length}
use Rattle.run.specs.Run.{begin, end}

-- name k ends where it begins or after it, and in the run
pub record GoodEnd (run ends : List ℕ) (k : ℕ) : Type 0 where
  pub rises : begin ends k ≤ end ends k
  pub inside : end ends k ≤ length run

abbrev pub GoodEnds : List ℕ → List ℕ → Type 0
GoodEnds run ends = (k : ℕ) → k < length ends → GoodEnd run ends k

-- 45 at k: name k is the first whose end falls or passes the run
pub record BadEnd (run ends : List ℕ) (k : ℕ) : Type 0 where
  pub is_name : k < length ends
  pub is_first : (j : ℕ) → j < k → GoodEnd run ends j
  pub is_bad : (end ends k < begin ends k) ⊎ (length run < end ends k)
