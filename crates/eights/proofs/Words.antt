-- Numbers that bytes spell, the lowest byte first or the highest, tell which bytes are the same. Assumes nothing.
use mathlib.Core.Path.{◌≡◌, refl}
use mathlib.Core.List.{List}
use Prim.Native.Nat.{ℕ, zero, suc, ◌+◌, ◌*◌, ◌≤◌}
use native.Mathlib.Nat.{add-zero, add_assoc}
use native.Mathlib.Omega.{arith}
use mir.Syntax.{w8}
use mir.Val.{Fits}
use lib.ListN.{length, drop, get_or}
use lib.Seq.{drop-cons}
use Rattle.rules.proofs.Laws.{and_last}
use Rattle.width.specs.Width.{le}
use Rattle.eights.specs.Steps.{be, Alike}

-- four bytes, one by one, and eight as twice four
module _ (s : List ℕ) (i : ℕ) where
  pub be_four : be s i 4 ≡ ((get_or s i 0 * 256 + get_or s (i + 1) 0) * 256 + get_or s (i + 2) 0) * 256 + get_or s (i + 3) 0
  unfolding be
  be_four = rw (add-zero i) (omega arith)

  pub be_eight : be s i 8 ≡ be s i 4 * 4294967296 + be s (i + 4) 4
  unfolding be
  be_eight = simp add_assoc (omega arith)

-- as code knows it of a slice of bytes
abbrev pub Octets : List ℕ → Type 0
Octets s = (k : ℕ) → Fits w8 (get_or s k 0)

module _ (s t : List ℕ) where
  -- the lowest byte first: bytes that are the same, and only they, spell the same number
  pub alike_le : (n i : ℕ) → i + n ≤ length s → i + n ≤ length t → Alike s t (i + n) → le n (drop i s) ≡ le n (drop i t)
  unfolding le
  alike_le zero i p q a = refl
  alike_le (suc n) i p q a =
      let e = alike_le n (suc i) (omega arith) (omega arith) (λ k h. a k (omega arith)) in
      rw (drop-cons s i 0 (omega arith), drop-cons t i 0 (omega arith)) (omega (arith, e, a i (omega arith)))

  module _ (f : Octets s) (g : Octets t) where
    pub le_alike : (n i : ℕ) → i + n ≤ length s → i + n ≤ length t → le n (drop i s) ≡ le n (drop i t) → Alike s t i → Alike s t (i + n)
    unfolding le
    le_alike zero i p q e a = rw (add-zero i) a
    le_alike (suc n) i p q e a =
        let h = rw (drop-cons s i 0 (omega arith), drop-cons t i 0 (omega arith)) at e in
        let next = and_last _ i a (omega (arith, h, f i, g i)) in
        λ k u. le_alike n (suc i) (omega arith) (omega arith) (omega (arith, h, f i, g i)) next k (omega arith)

    module _ (i : ℕ) where
      -- the highest byte first, too
      pub be_alike : (n : ℕ) → be s i n ≡ be t i n → Alike s t i → Alike s t (i + n)
      unfolding be
      be_alike zero e a = rw (add-zero i) a
      be_alike (suc n) e a =
          let before = be_alike n (omega (arith, f (i + n), g (i + n))) a in
          λ k u. and_last _ (i + n) before (omega (arith, f (i + n), g (i + n))) k (omega arith)
