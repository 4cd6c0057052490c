-- What each public call promises of its answer, or of the lent bytes after it: its `ensures` cites this, and so does Pinned. Assumes nothing.
use Rattle.std.specs.Prelude.{◌≡◌, List, ℕ, ◌^◌, ◌<◌, drop}
use Rattle.std.proofs.lemmas.List.Edits.{sets}
use Rattle.width.specs.Width.{le, bytes_of}

-- the byte itself, and its bound
abbrev pub WidePromise : ℕ → ℕ → Type 0
WidePromise x r = (r ≡ x) × (r < 256)

-- the number of `width` bytes at `at`, which fits these, and 32 bits
pub record UnpackPromise (s : List ℕ) (at width r : ℕ) : Type 0 where
  pub is : r ≡ le width (drop at s)
  pub fits : r < 4294967296
  pub within : r < 256 ^ width

-- the number of eight bytes at `at`
abbrev pub Unpack64Promise : List ℕ → ℕ → ℕ → Type 0
Unpack64Promise s at r = r ≡ le 8 (drop at s)

-- four bytes at `at` are the number's, and all others as they were
abbrev pub PackPromise : List ℕ → ℕ → ℕ → List ℕ → Type 0
PackPromise out at n after = after ≡ sets out at (bytes_of 4 n)
