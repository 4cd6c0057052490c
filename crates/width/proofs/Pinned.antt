-- Each promise fixes the answer, or the lent bytes after the call: two that meet it are equal. Assumes nothing.
use mathlib.Core.Path.{◌≡◌, sym, ◌∙◌}
use mathlib.Core.List.{List}
use Prim.Native.Nat.{ℕ}
use Rattle.width.specs.Promises.{WidePromise, UnpackPromise, Unpack64Promise, PackPromise}

pub wide_pinned : (x r q : ℕ) → WidePromise x r → WidePromise x q → r ≡ q
wide_pinned x r q a b = a.0 ∙ sym b.0

pub unpack_pinned : (s : List ℕ) (at width r q : ℕ) → UnpackPromise s at width r → UnpackPromise s at width q → r ≡ q
unpack_pinned s at width r q a b = a.is ∙ sym b.is

pub unpack_64_pinned : (s : List ℕ) (at r q : ℕ) → Unpack64Promise s at r → Unpack64Promise s at q → r ≡ q
unpack_64_pinned s at r q a b = a ∙ sym b

pub pack_pinned : (out : List ℕ) (at n : ℕ) (r q : List ℕ) → PackPromise out at n r → PackPromise out at n q → r ≡ q
pack_pinned out at n r q a b = a ∙ sym b
