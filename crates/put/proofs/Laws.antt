-- What is left to write makes the same of the room as the whole does: byte by byte, and one run of bytes after another. Assumes nothing.
use Prim.Native.Nat.{◌%◌}
use lib.Seq.{drop-cons}
use Rattle.rules.proofs.Prelude.{◌≡◌, refl, ap, ◌∙◌, List, [], ◌∷◌, ◌++◌, ℕ, zero, suc, ◌+◌, ◌-◌, ◌/◌, ◌≤◌, ◌<◌, add-one, arith, length, take, drop, get_or, set, sets}
use Rattle.width.specs.Width.{bytes_of}

-- COPIES, byte by byte
take_more : (n a : ℕ) (s : List ℕ) → 0 < n → take n (a ∷ s) ≡ a ∷ take (n - 1) s
take_more zero a s h = absurd (omega arith)
take_more (suc n) a s h = let e : suc n - 1 ≡ n = omega arith in rw e

module _ (l : List ℕ) (to i len : ℕ) where
  pub copy_turn : (a : ℕ) (s : List ℕ) → i < len → sets l (to + i) (take (len - i) (a ∷ s)) ≡ sets (set l (to + i) a) (to + (i + 1)) (take (len - (i + 1)) s)
  copy_turn a s h =
      let e : to + (i + 1) ≡ suc (to + i) = omega arith in
      let f : len - (i + 1) ≡ len - i - 1 = omega arith in
      rw (take_more (len - i) a s (omega arith), e, f)

  pub copy_end : (s : List ℕ) → len ≤ i → sets l (to + i) (take (len - i) s) ≡ l
  copy_end s h = let e : len - i ≡ 0 = omega arith in rw e

  pub plain_turn : (s : List ℕ) (from : ℕ) → i < len → from + len ≤ length s
      → sets l (to + i) (take (len - i) (drop (from + i) s))
      ≡ sets (set l (to + i) (get_or s (from + i) 0)) (to + (i + 1)) (take (len - (i + 1)) (drop (from + (i + 1)) s))
  plain_turn s from h k =
      let e : from + (i + 1) ≡ suc (from + i) = omega arith in
      let d : from + i < length s = omega arith in
      rw (drop-cons s (from + i) 0 d, e) (copy_turn (get_or s (from + i) 0) (drop (suc (from + i)) s) h)

-- A NUMBER, its lowest byte first
pub number_turn : (l : List ℕ) (at left n : ℕ) → 0 < left → sets (set l at (n % 256)) (at + 1) (bytes_of (left - 1) (n / 256)) ≡ sets l at (bytes_of left n)
unfolding bytes_of
number_turn l at zero n p = absurd (omega arith)
number_turn l at (suc left) n p = let e : suc left - 1 ≡ left = omega arith in rw (e, add-one at)

pub number_end : (l : List ℕ) (at left n : ℕ) → left ≡ 0 → sets l at (bytes_of left n) ≡ l
unfolding bytes_of
number_end l at left n e = rw e

-- ONE RUN OF STORES after another
pub sets_append : (l : List ℕ) (i : ℕ) (vs ws : List ℕ) → sets l i (vs ++ ws) ≡ sets (sets l i vs) (i + length vs) ws
sets_append l i [] ws = let e : i + 0 ≡ i = omega arith in rw e
sets_append l i (a ∷ vs) ws =
    let e : i + suc (length vs) ≡ suc i + length vs = omega arith in
    rw e (sets_append (set l i a) (suc i) vs ws)

-- TWO RUNS that stand apart may be written in either order
set_apart : (l : List ℕ) (i j a b : ℕ) → i < j → set (set l j b) i a ≡ set (set l i a) j b
set_apart [] i j a b p = refl
set_apart (x ∷ l) i zero a b p = absurd (omega arith)
set_apart (x ∷ l) zero (suc j) a b p = refl
set_apart (x ∷ l) (suc i) (suc j) a b p = ap (λ (t : List ℕ). x ∷ t) (set_apart l i j a b (omega arith))

one_apart : (l : List ℕ) (i j a : ℕ) (vs : List ℕ) → i < j → set (sets l j vs) i a ≡ sets (set l i a) j vs
one_apart l i j a [] p = refl
one_apart l i j a (v ∷ vs) p = one_apart (set l j v) i (suc j) a vs (omega arith) ∙ rw (set_apart l i j a v p)

pub sets_apart : (l : List ℕ) (i j : ℕ) (us vs : List ℕ) → i + length us ≤ j → sets (sets l j vs) i us ≡ sets (sets l i us) j vs
sets_apart l i j [] vs p = refl
sets_apart l i j (u ∷ us) vs p = rw (one_apart l i j u vs (omega arith)) (sets_apart (set l i u) (suc i) j us vs (omega arith))
