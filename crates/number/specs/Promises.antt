-- What each of the four readers promises, once over the width: its `ensures` cites this, and so does Pinned. Assumes nothing.
use Rattle.std.specs.Prelude.{◌≡◌, List, ℕ, ℤ, drop}
use Rattle.number.specs.Signed.{signed}

-- the signed number of `width` bytes at `at`
abbrev pub SignedPromise : ℕ → List ℕ → ℕ → ℤ → Type 0
SignedPromise width s at r = r ≡ signed width (drop at s)
