-- What good names are, and when 45 is due. proofs/Means.antt shows that the checks of Given.antt say the same. Assumes nothing.
use Rattle.std.specs.Prelude.{Bool, true, false, List, ℕ, ◌≤◌, ◌<◌, length}
use Rattle.part.specs.Part.{part}
use Rattle.chars.specs.Rfc3629.{Text}
use Rattle.run.specs.Run.{begin, end}

-- the bytes from one place to another do not fall, stay in the run, and are UTF-8
pub record GoodSpan (run : List ℕ) (from to : ℕ) : Type 0 where
  pub rises : from ≤ to
  pub inside : to ≤ length run
  pub is_text : Text (part run from to)

-- and a bool that says whether
abbrev pub SpanIs : List ℕ → ℕ → ℕ → Bool → Type 0
SpanIs run from to true = GoodSpan run from to
SpanIs run from to false = GoodSpan run from to → ⊥

-- name k runs from the end before to its own
abbrev pub GoodName : List ℕ → List ℕ → ℕ → Type 0
GoodName run ends k = GoodSpan run (begin ends k) (end ends k)

abbrev pub GoodNames : List ℕ → List ℕ → Type 0
GoodNames run ends = (k : ℕ) → k < length ends → GoodName run ends k

-- 45 at k: name k is the first that is not good
pub record BadName (run ends : List ℕ) (k : ℕ) : Type 0 where
  pub is_name : k < length ends
  pub is_first : (j : ℕ) → j < k → GoodName run ends j
  pub is_bad : GoodName run ends k → ⊥
