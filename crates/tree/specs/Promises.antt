-- What each public call promises, once for its `ensures` and for proofs/Pinned.antt. Assumes nothing.
use Rattle.std.specs.Prelude.{◌≡◌, List, ℕ, Result}
use Rattle.marks.specs.Marks.{cleared}
use Rattle.nodes.specs.declared.Fault.{Fault}
use Rattle.marked.specs.Promises.{CheckAtPromise}

abbrev pub CheckPromise : List ℕ → List ℕ → Result ℕ Fault → Type 0
CheckPromise d v r = CheckAtPromise 0 d v r

-- the answer, whatever the marks were and however many; and the marks after it, all 0
pub record CheckWithPromise (d v marks : List ℕ) (r : Result ℕ Fault) (after : List ℕ) : Type 0 where
  pub answers : CheckPromise d v r
  pub leaves : after ≡ cleared marks
