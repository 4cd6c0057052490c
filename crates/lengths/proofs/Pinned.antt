-- Each public call's promise fixes its whole answer: two answers that meet it are equal. Assumes nothing.
use Rattle.rules.proofs.Prelude.{◌≡◌, sym, ◌∙◌, Bool, List, ℕ}
use Rattle.std.specs.Prelude.{Option, Result}
use Rattle.lengths.specs.declared.Flaw.{Flaw}
use Rattle.lengths.specs.Promises.{HoldsPromise, FixedPromise, LengthPromise, KnownPromise, BytesPromise}

pub holds_pinned : (t : ℕ) (r q : Bool) → HoldsPromise t r → HoldsPromise t q → r ≡ q
holds_pinned t r q x y = x ∙ sym y

pub fixed_pinned : (t : ℕ) (r q : Option ℕ) → FixedPromise t r → FixedPromise t q → r ≡ q
fixed_pinned t r q x y = x ∙ sym y

pub length_pinned : (s : List ℕ) (r q : Result ℕ Flaw) → LengthPromise s r → LengthPromise s q → r ≡ q
length_pinned s r q x y = x ∙ sym y

pub known_pinned : (l : Result ℕ Flaw) (r q : Bool) → KnownPromise l r → KnownPromise l q → r ≡ q
known_pinned l r q x y = x ∙ sym y

pub bytes_pinned : (l : Result ℕ Flaw) (r q : ℕ) → BytesPromise l r → BytesPromise l q → r ≡ q
bytes_pinned l r q x y = x ∙ sym y
