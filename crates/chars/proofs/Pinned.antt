-- Each promise fixes the answer: two that meet it are equal. Assumes nothing.
use mathlib.Core.Path.{◌≡◌, sym, ◌∙◌}
use mathlib.Core.Bool.{Bool}
use mathlib.Core.List.{List}
use Prim.Native.Nat.{ℕ}
use Rattle.chars.specs.Promises.{CharAtPromise, BeginsAtPromise}

pub char_at_pinned : (s : List ℕ) (at r q : ℕ) → CharAtPromise s at r → CharAtPromise s at q → r ≡ q
char_at_pinned s at r q a b = a ∙ sym b

pub begins_at_pinned : (s : List ℕ) (at : ℕ) (r q : Bool) → BeginsAtPromise s at r → BeginsAtPromise s at q → r ≡ q
begins_at_pinned s at r q a b = a ∙ sym b
