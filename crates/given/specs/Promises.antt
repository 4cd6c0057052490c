-- What the call promises, once for its `ensures` and for proofs/Means.antt. Assumes nothing.
use Rattle.std.specs.Prelude.{◌≡◌, List, ℕ, Result, ⊤}
use Rattle.run.specs.declared.BadName.{BadName}
use Rattle.run.specs.Promises.{found_of}
use Rattle.given.specs.Given.{checks}

abbrev pub CheckPromise : List ℕ → List ℕ → Result ⊤ BadName → Type 0
CheckPromise run ends r = found_of r ≡ checks run ends
