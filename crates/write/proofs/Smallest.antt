-- The width is the smallest that holds both the count and the total length (document 02, j). Assumes nothing.
use Prim.Native.Nat.{◌^◌, max}
use native.Mathlib.Nat.{le-max_left, le-max_right, pow-le-pow_right}
use Rattle.rules.proofs.Prelude.{◌≡◌, refl, Bool, true, false, cond, List, ℕ, suc, ◌≤◌, ◌<◌, dec_lt, arith, ltb, ltb-true, ltb-false, length}
use Rattle.dictionary.specs.Limits.{limit}
use Rattle.sets.specs.Sets.{total}
use Rattle.lay.specs.Bytes.{width_of}
use Rattle.fill.specs.Bytes.{width_for, size}
use Rattle.fill.proofs.Laws.{size_count, size_total}

-- a number that fits no w bytes fits no fewer
wider : (n w v : ℕ) → 256 ^ w ≤ n → n < 256 ^ v → suc w ≤ v
wider n w v p q = go (dec_lt w v)
  where
    go : Dec (w < v) → suc w ≤ v
    go (yes h) = h
    go (no h) = absurd (omega (arith, p, q, pow-le-pow_right {n = 256} (omega arith) {i = v} {j = w} (omega arith)))

-- one to four bytes that hold n, where n fits 32 bits, and no fewer do
pub record Least (n w : ℕ) : Type 0 where
  pub some : 1 ≤ w
  pub few : w ≤ 4
  pub holds : n < 4294967296 → n < 256 ^ w
  pub least : (v : ℕ) → 1 ≤ v → n < 256 ^ v → w ≤ v

pub width_least : (n : ℕ) → Least n (width_of n)
unfolding width_of
width_least n = go (ltb n 0x100) refl (ltb n 0x10000) refl (ltb n 0x1000000) refl
  where
    go : (a : Bool) → ltb n 0x100 ≡ a → (b : Bool) → ltb n 0x10000 ≡ b → (c : Bool) → ltb n 0x1000000 ≡ c → Least n (cond a 1 (cond b 2 (cond c 3 4)))
    go true e b f c g = record { some = omega arith; few = omega arith; holds = λ _. ltb-true _ _ e; least = λ v p q. p }
    go false e true f c g =
        record { some = omega arith; few = omega arith; holds = λ _. ltb-true _ _ f; least = λ v p q. wider n 1 v (ltb-false n 0x100 e) q }
    go false e false f true g =
        record { some = omega arith; few = omega arith; holds = λ _. ltb-true _ _ g; least = λ v p q. wider n 2 v (ltb-false n 0x10000 f) q }
    go false e false f false g =
        record { some = omega arith; few = omega arith; holds = λ h. h; least = λ v p q. wider n 3 v (ltb-false n 0x1000000 g) q }

-- THE THEOREM: it holds both, and no smaller width does
pub record Smallest (names : List (List ℕ)) (w : ℕ) : Type 0 where
  pub some : 1 ≤ w
  pub few : w ≤ 4
  pub count_fits : length names < 256 ^ w
  pub total_fits : total names < 256 ^ w
  pub least : (v : ℕ) → 1 ≤ v → length names < 256 ^ v → total names < 256 ^ v → w ≤ v

pub smallest : (names : List (List ℕ)) → size names ≤ limit → Smallest names (width_for names)
unfolding width_for limit
smallest names fits =
    let most = max (length names) (total names) in
    let w = width_least most in
    let held : most < 4294967296 = omega (arith, fits, size_count names, size_total names) in
    record {
      some = w.some;
      few = w.few;
      count_fits = omega (arith, w.holds held, le-max_left (length names) (total names));
      total_fits = omega (arith, w.holds held, le-max_right (length names) (total names));
      least = λ v p c t. w.least v p (omega (arith, c, t));
    }
