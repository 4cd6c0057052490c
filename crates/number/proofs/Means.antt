-- A signed number, exactly when; and what bytes after it, and its 64 bits, make of it. Each is said once over the width. Assumes nothing.
use mathlib.Core.Path.{◌≡◌, refl, sym, ap, ◌∙◌}
use mathlib.Core.Logic.{◌↔◌}
use mathlib.Core.List.{List, ◌++◌}
use Prim.Native.Nat.{ℕ, suc, ◌+◌, ◌-◌, ◌*◌, ◌^◌, ◌<◌, ◌≤◌}
use native.Mathlib.Decide.{dec_lt}
use native.Mathlib.Nat.{pow-le-pow_right}
use native.Mathlib.Omega.{arith}
use borrow.Author.Tests.{lt-ltb, le-ltb}
use lib.IntN.{ℤ, pos, negsuc}
use lib.ListN.{length, drop}
use Rattle.width.specs.Width.{le}
use Rattle.width.proofs.Laws.{Bytes, le_lt, le_append_at}
use Rattle.number.specs.Signed.{signed, extended}
use Rattle.number.specs.Meaning.{Spells}
use Rattle.number.specs.Meaning.Spells.{itself, below_zero}
use Rattle.number.proofs.Sign.{less_whole}

-- EXACTLY WHEN
module _ (w : ℕ) (s : List ℕ) (bytes : Bytes s) where
  low : 2 * le w s < 256 ^ w → signed w s ≡ pos (le w s)
  unfolding signed
  low h = rw (lt-ltb (2 * le w s) (256 ^ w) h)

  high : (k : ℕ) → le w s + suc k ≡ 256 ^ w → 256 ^ w ≤ 2 * le w s → signed w s ≡ negsuc k
  unfolding signed
  high k e h = rw (le-ltb (2 * le w s) (256 ^ w) h) (less_whole (le w s) k (256 ^ w) e)

  spelled : Spells w s (signed w s)
  spelled = go (dec_lt (2 * le w s) (256 ^ w))
    where
      go : Dec (2 * le w s < 256 ^ w) → Spells w s (signed w s)
      go (yes h) = rw (low h) (itself refl h)
      go (no h) =
          let inside = le_lt w s bytes in
          let k = 256 ^ w - 1 - le w s in
          let whole : le w s + suc k ≡ 256 ^ w = omega arith in rw (high k whole (omega arith)) (below_zero whole (omega arith))

  is_spelled : (z : ℤ) → Spells w s z → signed w s ≡ z
  is_spelled z (itself e h) = low (rw (← e) h) ∙ ap pos (sym e)
  is_spelled z (below_zero {k = k} e h) = high k e (omega arith)

  pub exactly_when : (z : ℤ) → (signed w s ≡ z) ↔ Spells w s z
  exactly_when z = (λ e. rw e at spelled, is_spelled z)

  -- ITS 64 BITS: the same number, or the same with all higher bits set
  pub extended_low : 2 * le w s < 256 ^ w → extended (signed w s) ≡ le w s
  unfolding extended
  extended_low h = rw (low h)

  pub extended_high : 256 ^ w ≤ 2 * le w s → w ≤ 8 → extended (signed w s) + 256 ^ w ≡ 256 ^ 8 + le w s
  unfolding extended
  extended_high h few =
      let inside = le_lt w s bytes in
      let k = 256 ^ w - 1 - le w s in
      let most = pow-le-pow_right {n = 256} (omega arith) few in rw (high k (omega arith) h) (omega arith)

  pub extended_small : w ≤ 8 → extended (signed w s) < 256 ^ 8
  unfolding extended
  extended_small few = go (signed w s) spelled
    where
      go : (z : ℤ) → Spells w s z → extended z < 256 ^ 8
      go z (itself e h) = omega (arith, e, le_lt w s bytes, pow-le-pow_right {n = 256} (omega arith) few)
      go z (below_zero e h) = omega arith

-- BYTES AFTER a number that is whole do not matter
pub signed_append_at : (w at : ℕ) (s t : List ℕ) → at + w ≤ length s → signed w (drop at (s ++ t)) ≡ signed w (drop at s)
unfolding signed
signed_append_at w at s t h = rw (le_append_at w at s t h)
