-- What the public call promises, once for its `ensures` and for proofs/Pinned.antt. Assumes nothing.
use Rattle.std.specs.Prelude.{◌≡◌, List, ℕ, Result}
use Rattle.value.specs.declared.Value.{Value}
use Rattle.value.specs.declared.Refusal.{Refusal}
use Rattle.value.specs.Reading.{reading}

abbrev pub ReadPromise : List ℕ → Result Value Refusal → Type 0
ReadPromise s r = r ≡ reading s
