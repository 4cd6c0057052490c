-- The promise fixes the answer: two that meet it are equal. Assumes nothing.
use mathlib.Core.Path.{◌≡◌, sym, ◌∙◌}
use mathlib.Core.List.{List}
use Prim.Native.Nat.{ℕ}
use Rattle.std.specs.Prelude.{Result, ⊤}
use Rattle.utf8.specs.declared.Flaw.{Flaw}
use Rattle.utf8.specs.Promises.{CheckPromise}

pub check_pinned : (s : List ℕ) (r q : Result ⊤ Flaw) → CheckPromise s r → CheckPromise s q → r ≡ q
check_pinned s r q a b = a ∙ sym b
