-- The call's promise fixes its whole answer, a NaN's bits included: two answers that meet it are equal. Assumes nothing.
use Rattle.rules.proofs.Prelude.{◌≡◌, sym, ◌∙◌, List, ℕ}
use Rattle.std.specs.Prelude.{Result}
use Rattle.value.specs.declared.Value.{Value}
use Rattle.value.specs.declared.Refusal.{Refusal}
use Rattle.value.specs.Promises.{ReadPromise}

pub read_pinned : (s : List ℕ) (r q : Result Value Refusal) → ReadPromise s r → ReadPromise s q → r ≡ q
read_pinned s r q x y = x ∙ sym y
