-- Words that are written row by row from the front, each row so many words. Assumes nothing.
use mathlib.Core.Path.{◌≡◌, refl, sym, ◌∙◌}
use mathlib.Core.List.{List, ◌++◌}
use Prim.Native.Nat.{ℕ, zero, suc, ◌+◌, ◌*◌, ◌≤◌, ◌<◌}
use native.Mathlib.Decide.{dec_lt}
use native.Mathlib.Nat.{mul-le-mul_left, mul-suc}
use native.Mathlib.Numerals.{add-one}
use native.Mathlib.Omega.{arith}
use lib.ListN.{length, drop, get_or, length-append, length-drop, get_or-append}
use lib.Seq.{sets, sets-eq, take_at, drop-append-add, drop-drop, get_or-append-add}
use Rattle.rules.specs.Rules.{each}

-- p is written, and vs come next
next : (p l vs : List ℕ) (at : ℕ) → length p ≡ at → at + length vs ≤ length l → sets (p ++ drop at l) at vs ≡ (p ++ vs) ++ drop (at + length vs) l
next p l vs at e h =
    sets-eq vs (p ++ drop at l) at (simp (length-append, length-drop) (omega arith))
    ∙ rw (take_at p (drop at l) at e, ← e, drop-append-add p (drop (length p) l) (length vs), drop-drop (length vs) (length p) l)

module _ (row : ℕ → List ℕ) where
  pub rows_none : (l : List ℕ) → l ≡ each row 0 ++ drop 0 l
  unfolding each
  rows_none l = refl

  module _ (w : ℕ) (wide : (k : ℕ) → length (row k) ≡ w) where
    pub rows_length : (n : ℕ) → length (each row n) ≡ w * n
    unfolding each
    rows_length zero = omega arith
    rows_length (suc n) = simp length-append (rw (mul-suc w n) (omega (arith, rows_length n, wide n)))

    -- a row more, after k rows in words that were lent
    pub rows_more : (lent words : List ℕ) (k at : ℕ) → words ≡ each row k ++ drop at lent → at ≡ w * k → at + w ≤ length lent
        → sets words at (row k) ≡ each row (k + 1) ++ drop (at + w) lent
    unfolding each
    rows_more lent words k at e a h =
        rw (e, add-one k, ← wide k) (next (each row k) lent (row k) at (rows_length k ∙ sym a) (omega (arith, wide k)))

    -- word j of row k
    pub row_word : (n k j : ℕ) → k < n → j < w → get_or (each row n) (w * k + j) 0 ≡ get_or (row k) j 0
    unfolding each
    row_word zero k j p q = absurd (omega arith)
    row_word (suc n) k j p q = go (dec_lt k n) (λ u. row_word n k j u q)
      where
        go : Dec (k < n) → (k < n → get_or (each row n) (w * k + j) 0 ≡ get_or (row k) j 0) → get_or (each row n ++ row n) (w * k + j) 0 ≡ get_or (row k) j 0
        go (yes u) r =
            let fits : w * suc k ≤ w * n = mul-le-mul_left w u in
            get_or-append (each row n) (row n) 0 (w * k + j) (omega (arith, rows_length n, mul-suc w k)) ∙ r u
        go (no u) r =
            let k-is : k ≡ n = omega arith in
            rw (k-is, ← rows_length n) (get_or-append-add (each row n) (row n) j 0)
