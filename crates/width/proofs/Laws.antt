-- Laws of little-endian numbers, each once over the width. Assumes nothing.
use mathlib.Core.Path.{◌≡◌, refl, ap, ◌∙◌}
use mathlib.Core.List.{List, [], ◌∷◌, ◌++◌}
use Prim.Native.Nat.{ℕ, zero, suc, ◌+◌, ◌*◌, ◌^◌, ◌%◌, ◌/◌, ◌≤◌, ◌<◌}
use native.Mathlib.Nat.{pow-succ', one-le-pow, mul_assoc, mul-zero, add-zero, zero-add}
use native.Mathlib.Numerals.{add-one}
use native.Mathlib.Omega.{arith}
use lib.ListN.{length, take, drop, get_or, length-drop}
use lib.Seq.{drop-append-le, drop-drop, get_or-drop}
use Rattle.width.specs.Width.{le, bytes_of}

-- each element is a byte
abbrev pub Bytes : List ℕ → Type 0
Bytes s = (k : ℕ) → get_or s k 0 < 256

-- BOUND: w bytes spell a number below 256 to the w
pub le_lt : (w : ℕ) (s : List ℕ) → Bytes s → le w s < 256 ^ w
unfolding le
le_lt zero s h = omega arith
le_lt (suc w) [] h = one-le-pow (suc w) 256 (omega arith)
le_lt (suc w) (b ∷ s) h = omega (arith, h 0, le_lt w s (λ k. h (suc k)), pow-succ' 256 w)

-- APPENDED BYTES do not matter where the number is whole
le_append : (w : ℕ) (s t : List ℕ) → w ≤ length s → le w (s ++ t) ≡ le w s
unfolding le
le_append zero s t h = refl
le_append (suc w) [] t h = absurd (omega arith)
le_append (suc w) (b ∷ s) t h = ap (λ (k : ℕ). b + 256 * k) (le_append w s t (omega arith))

pub le_append_at : (w at : ℕ) (s t : List ℕ) → at + w ≤ length s → le w (drop at (s ++ t)) ≡ le w (drop at s)
le_append_at w at s t h =
    rw (drop-append-le at s t (omega arith)) (le_append w (drop at s) t (simp length-drop (omega arith)))

-- INSIDE A PART, a number is the one of the whole
le_take : (w n : ℕ) (s : List ℕ) → w ≤ n → le w (take n s) ≡ le w s
unfolding le
le_take zero n s h = refl
le_take (suc w) zero s h = absurd (omega arith)
le_take (suc w) (suc n) [] h = refl
le_take (suc w) (suc n) (b ∷ s) h = ap (λ (k : ℕ). b + 256 * k) (le_take w n s (omega arith))

pub le_inside : (w at n : ℕ) (s : List ℕ) → at + w ≤ n → le w (drop at (take n s)) ≡ le w (drop at s)
le_inside w zero n s h = le_take w n s (omega arith)
le_inside w (suc at) zero s h = absurd (omega arith)
le_inside w (suc at) (suc n) [] h = refl
le_inside w (suc at) (suc n) (b ∷ s) h = le_inside w at n s (omega arith)

-- ONE BYTE MORE, on top: the step of the reader
none : (w : ℕ) → le w [] ≡ 0
unfolding le
none zero = refl
none (suc w) = refl

le_none : (s : List ℕ) → le 0 s ≡ 0
unfolding le
le_none s = refl

le_top : (w : ℕ) (s : List ℕ) → le w s + 256 ^ w * get_or s w 0 ≡ le (suc w) s
unfolding le
le_top w [] = rw (none w, mul-zero (256 ^ w))
le_top zero (b ∷ s) = omega arith
le_top (suc w) (b ∷ s) =
    omega (arith, le_top w s, pow-succ' 256 w, mul_assoc 256 (256 ^ w) (get_or s w 0), ap (λ (k : ℕ). k * get_or s w 0) (pow-succ' 256 w))

-- of a number at a place: its first byte, and each byte more
pub unpack_first : (at : ℕ) (s : List ℕ) {b : ℕ} → b ≡ get_or s at 0 → b ≡ le 1 (drop at s)
unpack_first at s e =
    let byte : get_or (drop at s) 0 0 ≡ get_or s at 0 = get_or-drop at s 0 0 ∙ rw (add-zero at) in
    omega (arith, e, byte, le_none (drop at s), le_top 0 (drop at s))

pub unpack_more : (w at : ℕ) (s : List ℕ) {r b : ℕ} → r ≡ le w (drop at s) → b ≡ get_or s (at + w) 0 → r + 256 ^ w * b ≡ le (w + 1) (drop at s)
unpack_more w at s p q = rw (p, q, add-one w, ← get_or-drop at s w 0) (le_top w (drop at s))

-- A NUMBER OF a + b BYTES is one of a bytes and one of b bytes above it: eight bytes are read as two fours
le_split : (a b : ℕ) (s : List ℕ) → le (a + b) s ≡ le a s + 256 ^ a * le b (drop a s)
unfolding le
le_split zero b s = rw (zero-add b) (omega arith)
le_split (suc a) b [] = rw (none (suc a + b), none b, mul-zero (256 ^ suc a))
le_split (suc a) b (x ∷ s) =
    let e : suc a + b ≡ suc (a + b) = omega arith in
    rw e (omega (arith, le_split a b s, mul_assoc 256 (256 ^ a) (le b (drop a s)), ap (λ (k : ℕ). k * le b (drop a s)) (pow-succ' 256 a)))

pub unpack_above : (a b at : ℕ) (s : List ℕ) {low high : ℕ} → low ≡ le a (drop at s) → high ≡ le b (drop (at + a) s)
    → low + 256 ^ a * high ≡ le (a + b) (drop at s)
unpack_above a b at s p q = rw (p, q, ← drop-drop a at s, le_split a b (drop at s))

-- WRITTEN AND READ

pub bytes_length : (w n : ℕ) → length (bytes_of w n) ≡ w
unfolding bytes_of
bytes_length zero n = refl
bytes_length (suc w) n = ap suc (bytes_length w (n / 256))

-- what is written is read, where it fits
pub le_bytes : (w n : ℕ) (s : List ℕ) → n < 256 ^ w → le w (bytes_of w n ++ s) ≡ n
unfolding le bytes_of
le_bytes zero n s h = omega arith
le_bytes (suc w) n s h = omega (arith, le_bytes w (n / 256) s (omega (arith, pow-succ' 256 w)))

-- four bytes, one by one
pub bytes_four : (n : ℕ) → bytes_of 4 n ≡ n % 256 ∷ n / 256 % 256 ∷ n / 256 / 256 % 256 ∷ n / 256 / 256 / 256 % 256 ∷ []
unfolding bytes_of
bytes_four n = refl
