-- Two's complement, once over the width: what each of the four readers answers is the signed number of its bytes. Assumes nothing.
use mathlib.Core.Path.{◌≡◌, refl, sym, ap, ◌∙◌}
use mathlib.Core.List.{List}
use Prim.Native.Nat.{ℕ, zero, suc, ◌+◌, ◌-◌, ◌*◌, ◌^◌, ◌<◌, ◌≤◌}
use native.Mathlib.Nat.{zero-add}
use native.Mathlib.Decide.{dec_lt}
use native.Mathlib.Omega.{arith}
use borrow.Author.Tests.{lt-ltb, le-ltb}
use lib.IntN.{ℤ, pos, negsuc, ◌-ℤ◌}
use mir.Syntax.{Width, w8, w16, w32, w64, w128}
use mir.Val.{SFits, bits, hbits, to_z, of_z}
use mir.Facts.{to_z-neg, to_z-of_z}
use Rattle.std.proofs.lemmas.Int.{of_z-to_z}
use Rattle.width.specs.Width.{le}
use Rattle.number.specs.Signed.{signed}

-- the machine's widths, in bytes
abbrev pub bytes : Width → ℕ
bytes w8 = 1
bytes w16 = 2
bytes w32 = 4
bytes w64 = 8
bytes w128 = 16

-- half of the range is where the sign bit is set
range : (w : Width) → 256 ^ bytes w ≡ 2 * 2 ^ hbits w
range w8 = refl
range w16 = refl
range w32 = refl
range w64 = refl
range w128 = refl

places : (w : Width) → 2 ^ bits w ≡ 256 ^ bytes w
places w8 = refl
places w16 = refl
places w32 = refl
places w64 = refl
places w128 = refl

-- counting down from minus one
minus : (k : ℕ) → negsuc 0 -ℤ pos k ≡ negsuc k
minus zero = refl
minus (suc k) = ap (λ (n : ℕ). negsuc (suc n)) (zero-add k)

-- less the whole range
less : (n m : ℕ) → n < suc m → pos n -ℤ pos (suc m) ≡ negsuc (m - n)
less n m h = rw (lt-ltb n (suc m) h) (ap negsuc (omega arith))

pub less_whole : (n k m : ℕ) → n + suc k ≡ m → pos n -ℤ pos m ≡ negsuc k
less_whole n k m e =
    let whole : m ≡ suc (n + k) = omega arith in
    let rest : n + k - n ≡ k = omega arith in rw whole (less n (n + k) (omega arith) ∙ ap negsuc rest)

module _ (w : Width) (s : List ℕ) (n : ℕ) (is : n ≡ le (bytes w) s) where
  -- BELOW HALF: the number itself
  pub at_least : n < 2 ^ hbits w → to_z w n ≡ signed (bytes w) s
  unfolding signed
  at_least h =
      let half : 2 * n < 256 ^ bytes w = rw (range w) (omega arith) in
      rw (← is, lt-ltb n (2 ^ hbits w) h, lt-ltb (2 * n) (256 ^ bytes w) half)

  -- FROM HALF ON: as far below minus one as it is below the range's last
  from_half : 2 ^ hbits w ≤ n → n < 256 ^ bytes w → to_z w n ≡ signed (bytes w) s
  unfolding signed
  from_half h inside =
      let k = 256 ^ bytes w - 1 - n in
      let here : 2 ^ bits w - suc k ≡ n = rw (places w) (omega arith) in
      let half : 256 ^ bytes w ≤ 2 * n = rw (range w) (omega arith) in
      let small : k < 2 ^ hbits w = omega (arith, range w) in
      let down = less_whole n k (256 ^ bytes w) (omega arith) in
      rw (← is, le-ltb (2 * n) (256 ^ bytes w) half, down) (rw here at (to_z-neg w k small))

  -- and so many below minus one, as a number of the width
  module _ (k : ℕ) (last : k ≡ 256 ^ bytes w - 1 - n) (small : k < 2 ^ hbits w) where
    pub fits : SFits w (negsuc 0 -ℤ to_z w k)
    fits = rw (lt-ltb k (2 ^ hbits w) small, minus k) (record { sfits = small })

    pub below : 2 ^ hbits w ≤ n → n < 256 ^ bytes w → to_z w (of_z w (negsuc 0 -ℤ to_z w k)) ≡ signed (bytes w) s
    unfolding signed
    below h inside =
        let m = 256 ^ bytes w - 1 in
        let whole : 256 ^ bytes w ≡ suc m = omega arith in
        let half : 256 ^ bytes w ≤ 2 * n = rw (range w) (omega arith) in
        let down : pos n -ℤ pos (256 ^ bytes w) ≡ negsuc k = rw whole (less n m (omega arith) ∙ ap negsuc (sym last)) in
        to_z-of_z {w = w} fits ∙ rw (lt-ltb k (2 ^ hbits w) small, minus k, ← is, le-ltb (2 * n) (256 ^ bytes w) half) (sym down)

  -- THE LAW: the same bits, read with a sign
  pub cast_is : (z : ℤ) → z ≡ to_z w n → n < 256 ^ bytes w → to_z w (of_z w z) ≡ signed (bytes w) s
  cast_is z e inside =
      let small : n < 2 ^ bits w = rw (places w) inside in rw (e, of_z-to_z w n small) (go (dec_lt n (2 ^ hbits w)))
    where
      go : Dec (n < 2 ^ hbits w) → to_z w n ≡ signed (bytes w) s
      go (yes h) = at_least h
      go (no h) = from_half (omega arith) inside
