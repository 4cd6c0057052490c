-- The public call's promise fixes its whole answer: two answers that meet it are equal. Assumes nothing.
use Rattle.rules.proofs.Prelude.{◌≡◌, sym, ◌∙◌, ℕ}
use Rattle.encoding.specs.declared.Header.{Header}
use Rattle.encoding.specs.Promises.{HeaderPromise}

pub header_pinned : (b : ℕ) (r q : Header) → HeaderPromise b r → HeaderPromise b q → r ≡ q
header_pinned b r q x y = x.says ∙ sym y.says
