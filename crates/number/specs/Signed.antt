-- Signed numbers of w bytes, two's complement, the least significant byte first (document 02, g; VariantEncoding.md, "Encoding types": int8 to
-- int64). One definition over the width. Assumes nothing.
use Rattle.std.specs.Prelude.{cond, List, ℕ, suc, ◌-◌, ◌*◌, ◌^◌, ltb, ℤ, pos, negsuc, ◌-ℤ◌}
use Rattle.width.specs.Width.{le}

-- the number that the first w bytes spell, where it is below half of 256 ^ w; from there on, less 256 ^ w
unfoldable pub signed : ℕ → List ℕ → ℤ
signed w s = cond (ltb (2 * le w s) (256 ^ w)) (pos (le w s)) (pos (le w s) -ℤ pos (256 ^ w))

-- THE OTHER WAY: a number extended to 64 bits, two's complement
unfoldable pub extended : ℤ → ℕ
extended (pos n) = n
extended (negsuc k) = 256 ^ 8 - suc k
