-- How the test programs count their cases, and those that were not as expected. Assumes nothing.
use Rattle.std.specs.Prelude.{◌≡◌, Bool, true, false, ℕ, ◌+◌, ◌≤◌, ◌<◌}

-- one more, as far as 32 bits count
abbrev pub More : ℕ → ℕ → Type 0
More n m = (n < 0xFFFFFFFF → m ≡ n + 1) × (0xFFFFFFFF ≤ n → m ≡ n)

-- the wrong ones after a case: as many where it was good, else one more
abbrev pub Judged : Bool → ℕ → ℕ → Type 0
Judged true n m = m ≡ n
Judged false n m = More n m
