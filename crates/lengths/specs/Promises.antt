-- What each public call promises, once for its `ensures` and for proofs/Pinned.antt. Assumes nothing.
use Rattle.std.specs.Prelude.{◌≡◌, Bool, List, ℕ, Option, Result}
use Rattle.lengths.specs.declared.Flaw.{Flaw}
use Rattle.lengths.specs.Lengths.{holds_length, fixed_length, own_length, is_known, bytes_of}

abbrev pub HoldsPromise : ℕ → Bool → Type 0
HoldsPromise t r = r ≡ holds_length t

abbrev pub FixedPromise : ℕ → Option ℕ → Type 0
FixedPromise t r = r ≡ fixed_length t

abbrev pub LengthPromise : List ℕ → Result ℕ Flaw → Type 0
LengthPromise s r = r ≡ own_length s

abbrev pub KnownPromise : Result ℕ Flaw → Bool → Type 0
KnownPromise l r = r ≡ is_known l

abbrev pub BytesPromise : Result ℕ Flaw → ℕ → Type 0
BytesPromise l r = r ≡ bytes_of l
