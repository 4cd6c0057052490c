-- What each public call promises, once for its `ensures` and for proofs/Pinned.antt. Assumes nothing.
use Rattle.std.specs.Prelude.{◌≡◌, ℕ, ◌<◌}
use Rattle.layout.specs.Steps.{Few}
use Rattle.encoding.specs.declared.Header.{Header}
use Rattle.encoding.specs.declared.Header.TheVariants as header
use Rattle.encoding.specs.Encoding.{header_of}

-- what the byte says, and within which bounds a byte can say it
abbrev pub Bounded : Header → Type 0
Bounded (header.Primitive t) = t < 64
Bounded (header.ShortString n) = n < 64
Bounded (header.Object w) = Few w
Bounded (header.List w) = Few w

pub record HeaderPromise (b : ℕ) (r : Header) : Type 0 where
  pub says : r ≡ header_of b
  pub bounds : Bounded r
