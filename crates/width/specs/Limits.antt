-- The largest number of 32 bits, to which document 01's checks hold their sums, named once. Proofs go by the name. Assumes nothing.
use Rattle.std.specs.Prelude.{ℕ}

-- the largest number of 32 bits (14, 24)
unfoldable pub u32_max : ℕ
u32_max = 4294967295
