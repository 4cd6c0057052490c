-- Numbers of w bytes, little-endian (document 01, "Dictionary bytes"; VariantEncoding.md, "Metadata encoding": all of them unsigned, the
-- least significant byte first). One definition over the width. Assumes nothing.
use Rattle.std.specs.Prelude.{List, [], ◌∷◌, ℕ, zero, suc, ◌+◌, ◌*◌, ◌%◌, ◌/◌}

-- the number that the first w bytes spell; bytes that are not there read as 0
unfoldable pub le : ℕ → List ℕ → ℕ
le zero s = 0
le (suc w) [] = 0
le (suc w) (b ∷ s) = b + 256 * le w s

-- THE OTHER WAY: the w bytes that spell a number, the least significant first; of a number that is too large, its low bytes
unfoldable pub bytes_of : ℕ → ℕ → List ℕ
bytes_of zero n = []
bytes_of (suc w) n = n % 256 ∷ bytes_of w (n / 256)
