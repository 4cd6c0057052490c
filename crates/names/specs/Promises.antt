-- What each public call promises of its answer: its `ensures` cites this, and so does Pinned. Assumes nothing.
use Rattle.std.specs.Prelude.{◌≡◌, Bool, List, ℕ}
use Rattle.std.specs.declared.cmp.Ordering.{Ordering}
use Rattle.names.specs.Order.{compare_of, below}

-- which comes first
abbrev pub ComparePromise : List ℕ → List ℕ → Ordering → Type 0
ComparePromise a b r = r ≡ compare_of a b

-- whether the first does
abbrev pub IsBelowPromise : List ℕ → List ℕ → Bool → Type 0
IsBelowPromise a b r = r ≡ below a b
