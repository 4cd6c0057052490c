-- What the call promises, once for its `ensures` and for proofs/Means.antt. Assumes nothing.
use Rattle.std.specs.Prelude.{◌≡◌, List, ℕ, Result, Ok, Err, ⊤}
use Rattle.rules.specs.Rules.{Found}
use Rattle.rules.specs.Rules.Found.{pass, stop}
use Rattle.run.specs.declared.BadName.{BadName}
use Rattle.run.specs.Run.{checks}

abbrev pub found_of : Result ⊤ BadName → Found
found_of (Ok _) = pass
found_of (Err bad) = stop 45 bad.number

abbrev pub CheckPromise : List ℕ → List ℕ → Result ⊤ BadName → Type 0
CheckPromise run ends r = found_of r ≡ checks run ends
