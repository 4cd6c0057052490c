-- A number of any width as one of 64 bits, and its bits: from the last of the range down, where it is below zero. Assumes nothing.
use Rattle.rules.proofs.Prelude.{◌≡◌, refl, sym, ap, ◌∙◌, true, false, ℕ, suc, ◌-◌, ◌≤◌, ◌<◌, arith, le-ltb, false_true}
use Prim.Native.Nat.{◌^◌}
use native.Mathlib.Nat.{lt_of_lt_of_le}
use lib.Pow.{pow_mono}
use lib.IntN.{ℤ, pos, negsuc, nat_abs, ◌-ℤ◌}
use lib.Signed.{lt_z}
use mir.Syntax.{Width, w64}
use mir.Val.{SFits, hbits, to_z, of_z}
use mir.Facts.{to_z-of_z}
use Rattle.number.specs.Signed.{extended}

-- minus one less a number below zero
turned : (k : ℕ) → negsuc 0 -ℤ negsuc k ≡ pos k
turned k = rw (le-ltb (suc k) 1 (omega arith)) (ap pos (omega arith))

-- BELOW ZERO, as the test tells it: how far below minus one it is
pub record Below (z : ℤ) : Type 0 where
  pub down : ℕ
  pub is : z ≡ negsuc down
  pub small : down < 2 ^ 63
  pub turns : negsuc 0 -ℤ to_z w64 (of_z w64 z) ≡ pos down

pub below : (z : ℤ) → SFits w64 z → lt_z (to_z w64 (of_z w64 z)) (pos 0) ≡ true → Below z
below z f e = go z f (rw (to_z-of_z {w = w64} {z = z} f) at e)
  where
    go : (z : ℤ) → SFits w64 z → lt_z z (pos 0) ≡ true → Below z
    go (pos n) f e = false_true (sym (le-ltb n 0 (omega arith)) ∙ e)
    go (negsuc k) f e = record { down = k; is = refl; small = f.sfits; turns = rw (to_z-of_z {w = w64} {z = negsuc k} f) (turned k) }

pub bits_below : (z : ℤ) (b : Below z) → 18446744073709551615 - b.down ≡ extended z
unfolding extended
bits_below z b = rw b.is (omega arith)

-- OTHERWISE it is its own bits
pub record Above (z : ℤ) : Type 0 where
  pub up : ℕ
  pub is : z ≡ pos up
  pub small : up < 2 ^ 63

pub above : (z : ℤ) → SFits w64 z → lt_z (to_z w64 (of_z w64 z)) (pos 0) ≡ false → Above z
above z f e = go z f (rw (to_z-of_z {w = w64} {z = z} f) at e)
  where
    go : (z : ℤ) → SFits w64 z → lt_z z (pos 0) ≡ false → Above z
    go (pos n) f e = record { up = n; is = refl; small = f.sfits }
    go (negsuc k) f e = false_true (sym e)

pub bits_above : (z : ℤ) (a : Above z) → nat_abs z ≡ extended z
unfolding extended
bits_above z a = rw a.is

-- A NARROWER NUMBER is the same one of 64 bits
module _ (w : Width) (narrow : hbits w ≤ 63) (z : ℤ) (f : SFits w z) where
  pub wider : SFits w64 (to_z w (of_z w z))
  wider = rw (to_z-of_z {w = w} {z = z} f) (record { sfits = lt_of_lt_of_le f.sfits (pow_mono narrow) })

  pub same : to_z w64 (of_z w64 (to_z w (of_z w z))) ≡ z
  same = to_z-of_z {w = w64} wider ∙ to_z-of_z {w = w} {z = z} f
