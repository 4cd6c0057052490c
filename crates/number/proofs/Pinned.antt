-- The promise of the four readers fixes the answer: two that meet it are equal. Assumes nothing.
use mathlib.Core.Path.{◌≡◌, sym, ◌∙◌}
use mathlib.Core.List.{List}
use Prim.Native.Nat.{ℕ}
use lib.IntN.{ℤ}
use Rattle.number.specs.Promises.{SignedPromise}

pub signed_pinned : (width : ℕ) (s : List ℕ) (at : ℕ) (r q : ℤ) → SignedPromise width s at r → SignedPromise width s at q → r ≡ q
signed_pinned width s at r q a b = a ∙ sym b
