-- Each promise fixes the answer: two that meet it are equal. Assumes nothing.
use mathlib.Core.Path.{◌≡◌, sym, ◌∙◌}
use mathlib.Core.Bool.{Bool}
use mathlib.Core.List.{List}
use Prim.Native.Nat.{ℕ}
use Rattle.std.specs.declared.cmp.Ordering.{Ordering}
use Rattle.names.specs.Promises.{ComparePromise, IsBelowPromise}

pub compare_pinned : (a b : List ℕ) (r q : Ordering) → ComparePromise a b r → ComparePromise a b q → r ≡ q
compare_pinned a b r q p p' = p ∙ sym p'

pub is_below_pinned : (a b : List ℕ) (r q : Bool) → IsBelowPromise a b r → IsBelowPromise a b q → r ≡ q
is_below_pinned a b r q p p' = p ∙ sym p'
