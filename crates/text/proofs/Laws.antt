-- Laws of runs, digits and numbers, at a place of the text. Assumes nothing.
use mathlib.Core.Path.{◌≡◌, refl, sym, ap, ◌∙◌}
use mathlib.Core.Bool.{Bool, true, false, cond, ◌&&◌, true≢false}
use mathlib.Core.List.{List, [], ◌∷◌, ◌++◌}
use Prim.Native.Nat.{ℕ, zero, suc, ◌+◌, ◌-◌, ◌*◌, ◌/◌, ◌%◌, ◌≤◌, ◌<◌}
use native.Mathlib.Numerals.{add-one}
use native.Mathlib.Omega.{arith}
use borrow.Author.Tests.{ltb-false, lt-ltb, le-ltb, le-leb, lt-leb, eq-eqb, ne_eqb}
use lib.Dec.{leb, ltb}
use lib.ListN.{length, drop, get_or, drop_of_length-le, length-drop}
use lib.Seq.{drop-cons, sets, sets-eq}
use Rattle.std.specs.Prelude.{Option, None, Some, Ok, Err}
use Rattle.text.specs.declared.Fault.TheVariants.{Odd, NoDigit, Long}
use Rattle.text.specs.Text.{before, within, digit_of, no_digit, pairs, is_dash, hex_of, decimal, small, number_of}

-- RUNS

module _ (stops : ℕ → Bool) where
  goes_on : (m n : ℕ) (t : Bool) → cond t 0 (suc m) ≡ suc n → (t ≡ false) × (m ≡ n)
  goes_on m n false e = (refl, omega arith)
  goes_on m n true e = absurd (omega arith)

  module _ (s : List ℕ) (i : ℕ) where
    pub before_end : length s ≤ i → before stops (drop i s) ≡ 0
    unfolding before
    before_end h = rw (drop_of_length-le s h)

    pub before_stop : i < length s → stops (get_or s i 0) ≡ true → before stops (drop i s) ≡ 0
    unfolding before
    before_stop h e = rw (drop-cons s i 0 h, e)

    pub before_more : i < length s → stops (get_or s i 0) ≡ false → before stops (drop i s) ≡ suc (before stops (drop (i + 1) s))
    unfolding before
    before_more h e = rw (drop-cons s i 0 h, e, add-one i)

  -- where nothing stops the run, no byte does
  pub none_stops : (s : List ℕ) → before stops s ≡ length s → (k : ℕ) → k < length s → stops (get_or s k 0) ≡ false
  unfolding before
  none_stops [] e k h = absurd (omega arith)
  none_stops (b ∷ s) e zero h = (goes_on (before stops s) (length s) (stops b) e).0
  none_stops (b ∷ s) e (suc k) h = none_stops s (goes_on (before stops s) (length s) (stops b) e).1 k (omega arith)

-- DIGITS

module _ (low high b : ℕ) where
  inside : low ≤ b → b ≤ high → within low high b ≡ true
  inside p q = rw (le-leb low b p, le-leb b high q)

  under : b < low → within low high b ≡ false
  under p = rw (lt-leb low b p)

  no_and : (t : Bool) → (t && false) ≡ false
  no_and false = refl
  no_and true = refl

  over : high < b → within low high b ≡ false
  over p = rw (lt-leb b high p) (no_and (leb low b))

module _ (b : ℕ) where
  pub decimal_digit : 48 ≤ b → b < 58 → b - 48 ≡ digit_of b
  unfolding digit_of
  decimal_digit p q = rw (inside 0x30 0x39 b p (omega arith))

  pub capital_digit : 65 ≤ b → b < 71 → b - 55 ≡ digit_of b
  unfolding digit_of
  capital_digit p q = rw (over 0x30 0x39 b (omega arith), inside 0x41 0x46 b p (omega arith))

  pub letter_digit : 97 ≤ b → b < 103 → b - 87 ≡ digit_of b
  unfolding digit_of
  letter_digit p q = rw (over 0x30 0x39 b (omega arith), over 0x41 0x46 b (omega arith), inside 0x61 0x66 b p (omega arith))

  pub digit_low : b < 48 → 16 ≡ digit_of b
  unfolding digit_of
  digit_low p = rw (under 0x30 0x39 b p, under 0x41 0x46 b (omega arith), under 0x61 0x66 b (omega arith))

  pub digit_between : 58 ≤ b → b < 65 → 16 ≡ digit_of b
  unfolding digit_of
  digit_between p q = rw (over 0x30 0x39 b p, under 0x41 0x46 b q, under 0x61 0x66 b (omega arith))

  pub digit_among : 71 ≤ b → b < 97 → 16 ≡ digit_of b
  unfolding digit_of
  digit_among p q = rw (over 0x30 0x39 b (omega arith), over 0x41 0x46 b p, under 0x61 0x66 b q)

  pub digit_high : 103 ≤ b → 16 ≡ digit_of b
  unfolding digit_of
  digit_high p = rw (over 0x30 0x39 b (omega arith), over 0x41 0x46 b (omega arith), over 0x61 0x66 b p)

-- in a text of digits
pub is_digit : (s : List ℕ) → before no_digit s ≡ length s → (k : ℕ) → k < length s → digit_of (get_or s k 0) ≤ 15
is_digit s e k h = ltb-false 15 _ (none_stops no_digit s e k h)

-- NUMBERS

module _ (v : ℕ) (s : List ℕ) (i : ℕ) where
  pub decimal_end : length s ≤ i → decimal v (drop i s) ≡ Some v
  unfolding decimal
  decimal_end h = rw (drop_of_length-le s h)

  pub decimal_stop : i < length s → 9 < digit_of (get_or s i 0) → decimal v (drop i s) ≡ None
  unfolding decimal
  decimal_stop h e = rw (drop-cons s i 0 h, lt-ltb 9 (digit_of (get_or s i 0)) e)

  pub decimal_more : i < length s → digit_of (get_or s i 0) ≤ 9 → decimal v (drop i s) ≡ decimal (v * 10 + digit_of (get_or s i 0)) (drop (i + 1) s)
  unfolding decimal
  decimal_more h e = rw (drop-cons s i 0 h, le-ltb 9 (digit_of (get_or s i 0)) e, add-one i)

-- more digits make no smaller number
pub too_large : (s : List ℕ) (v : ℕ) → 4294967295 < v → small (decimal v s) ≡ None
unfolding decimal
too_large [] v h = rw (le-ltb v 4294967296 (omega arith))
too_large (b ∷ s) v h = by (ltb 9 (digit_of b)) _ (too_large s (v * 10 + digit_of b) (omega arith))
  where
    by : (t : Bool) (n : Option ℕ) → small n ≡ None → small (cond t None n) ≡ None
    by false n e = e
    by true n e = refl

pub no_digits : (s : List ℕ) → length s ≡ 0 → number_of s ≡ None
unfolding number_of
no_digits [] h = refl
no_digits (b ∷ s) h = absurd (omega arith)

pub some_digits_law : (s : List ℕ) → 0 < length s → small (decimal 0 s) ≡ number_of s
unfolding number_of
some_digits_law [] h = absurd (omega arith)
some_digits_law (b ∷ s) h = refl

-- HEX

pub pairs_length : (s : List ℕ) → length (pairs s) ≡ length s / 2
unfolding pairs
pairs_length [] = refl
pairs_length (a ∷ []) = refl
pairs_length (a ∷ b ∷ s) = omega (arith, pairs_length s)

no_pair : (s : List ℕ) → length s ≤ 1 → pairs s ≡ []
unfolding pairs
no_pair [] h = refl
no_pair (a ∷ []) h = refl
no_pair (a ∷ b ∷ s) h = absurd (omega arith)

module _ (s : List ℕ) (n : ℕ) where
  pub pairs_end : length s ≤ 2 * n + 1 → pairs (drop (2 * n) s) ≡ []
  pairs_end h = no_pair (drop (2 * n) s) (simp length-drop (omega arith))

  pub pairs_more : 2 * n + 1 < length s
      → pairs (drop (2 * n) s) ≡ (digit_of (get_or s (2 * n) 0) * 16 + digit_of (get_or s (2 * n + 1) 0)) ∷ pairs (drop (2 * (n + 1)) s)
  unfolding pairs
  pairs_more h =
      let two : 2 * (n + 1) ≡ suc (suc (2 * n)) = omega arith in
      rw (drop-cons s (2 * n) 0 (omega arith), drop-cons s (suc (2 * n)) 0 (omega arith), add-one (2 * n), two)

pub at_start : (bytes room : List ℕ) → length bytes ≤ length room → sets room 0 bytes ≡ bytes ++ drop (length bytes) room
at_start bytes room h =
    let none : 0 + length bytes ≡ length bytes = omega arith in
    sets-eq bytes room 0 (omega arith) ∙ rw none

-- the readings, in the order of the tests

pub no_way : {A : Type 0} {t : Bool} → t ≡ false → (A → t ≡ true) → A → ⊥
no_way e f a = true≢false (sym (f a) ∙ e)

no_dash : (s : List ℕ) → (s ≡ 0x2D ∷ [] → ⊥) → is_dash s ≡ false
no_dash [] h = refl
no_dash (b ∷ []) h = ne_eqb b 0x2D (λ e. h (ap (λ (x : ℕ). x ∷ []) e))
no_dash (b ∷ c ∷ s) h = refl

module _ (s : List ℕ) (room : ℕ) where
  pub hex_dash : s ≡ 0x2D ∷ [] → hex_of s room ≡ Ok []
  unfolding hex_of
  hex_dash e = rw e

  module _ (other : s ≡ 0x2D ∷ [] → ⊥) where
    pub hex_odd : (length s % 2 ≡ 0 → ⊥) → hex_of s room ≡ Err Odd
    unfolding hex_of
    hex_odd odd = rw (no_dash s other, eq-eqb (length s % 2) 1 (omega arith))

    module _ (even : length s % 2 ≡ 0) where
      no_one : length s % 2 ≡ 1 → ⊥
      no_one h = omega arith

      pub hex_long : room < length s / 2 → hex_of s room ≡ Err Long
      unfolding hex_of
      hex_long h = rw (no_dash s other, ne_eqb (length s % 2) 1 no_one, lt-ltb room (length s / 2) h)

      pub hex_bad : length s / 2 ≤ room → before no_digit s < length s → hex_of s room ≡ Err NoDigit
      unfolding hex_of
      hex_bad fits h =
          rw (no_dash s other, ne_eqb (length s % 2) 1 no_one, le-ltb room (length s / 2) fits, lt-ltb (before no_digit s) (length s) h)

      pub hex_good : length s / 2 ≤ room → length s ≤ before no_digit s → hex_of s room ≡ Ok (pairs s)
      unfolding hex_of
      hex_good fits h =
          rw (no_dash s other, ne_eqb (length s % 2) 1 no_one, le-ltb room (length s / 2) fits, le-ltb (before no_digit s) (length s) h)
