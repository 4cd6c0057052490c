-- What each public call promises, once for its `ensures` and for proofs/Pinned.antt. (`check_layer` and `open` promise
-- `CheckedOf` and `OpeningOf` of Steps.antt.) Assumes nothing.
use Rattle.std.specs.Prelude.{◌≡◌, List, ℕ, Result}
use Rattle.layer.specs.Object.{verdict}
use Rattle.layer.specs.declared.Refusal.{Refusal}
use Rattle.object.specs.declared.Accepted.{Accepted}
use Rattle.object.specs.Answers.{verdict_numbers}

abbrev pub CheckPromise : List ℕ → List ℕ → Result Accepted Refusal → Type 0
CheckPromise d o r = verdict_numbers r ≡ verdict d o
