-- What a signed number is, in words: proofs/Sign.antt shows that `signed` of Signed.antt says the same of bytes. Assumes nothing.
use Rattle.std.specs.Prelude.{◌≡◌, List, ℕ, suc, ◌+◌, ◌*◌, ◌^◌, ◌≤◌, ◌<◌, ℤ, pos, negsuc}
use Rattle.width.specs.Width.{le}

-- of the two numbers that have these w bytes as their lowest, the one from minus half of 256 ^ w up to half of it
pub data Spells (w : ℕ) (s : List ℕ) : ℤ → Type 0 where
  itself : {n : ℕ} → n ≡ le w s → 2 * n < 256 ^ w → Spells w s (pos n)
  below_zero : {k : ℕ} → le w s + suc k ≡ 256 ^ w → 2 * suc k ≤ 256 ^ w → Spells w s (negsuc k)
