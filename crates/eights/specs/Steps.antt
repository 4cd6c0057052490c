-- What the steps of a comparison by eight bytes at a time promise each other. Assumes nothing.
use Rattle.std.specs.Prelude.{◌≡◌, List, ℕ, zero, suc, ◌+◌, ◌*◌, ◌≤◌, ◌<◌, drop, get_or}
use Rattle.width.specs.Width.{le}

-- the number that the n bytes at i spell, the highest byte first
unfoldable pub be : List ℕ → ℕ → ℕ → ℕ
be s i zero = 0
be s i (suc n) = 256 * be s i n + get_or s (i + n) 0

-- r is the number of the eight bytes at i, the lowest byte first: of four, and above these of four more
pub record Raw (s : List ℕ) (i r : ℕ) : Type 0 where
  pub is : r ≡ le 4 (drop i s) + 4294967296 * le 4 (drop (i + 4) s)
  pub fits : le 4 (drop i s) < 4294967296

-- the first n bytes are the same
abbrev pub Alike : List ℕ → List ℕ → ℕ → Type 0
Alike s t n = (k : ℕ) → k < n → get_or s k 0 ≡ get_or t k 0

-- r is where eight bytes decide: all before it are the same, and if these are too, no more is shared
pub record Decides (s t : List ℕ) (shared r : ℕ) : Type 0 where
  pub alike : Alike s t r
  pub inside : r + 8 ≤ shared
  pub last : Alike s t (r + 8) → r + 8 ≡ shared
