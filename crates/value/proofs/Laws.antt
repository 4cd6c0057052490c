-- Which bits are a NaN's; what is so of a primitive, type by type; and the reading by what the header byte says. Assumes nothing.
use Rattle.rules.proofs.Prelude.{◌≡◌, refl, sym, ap, ◌∙◌, Bool, true, false, not, cond, List, ℕ, ◌+◌, ◌*◌, ◌≤◌, ◌<◌, arith}
use Rattle.rules.proofs.Prelude.{eqb, lt-ltb, le-ltb, length, drop, get_or}
use Prim.Native.Nat.{◌%◌}
use borrow.Author.Tests.{eqb-true, eqb-false}
use lib.Dec.{T}
use lib.Ieee.{Format, binary32, binary64, of_bits, nan_bits, ones, hid, top}
use lib.Ieee.Bits.{nan_bits_above}
use Rattle.width.specs.Width.{le}
use Rattle.number.specs.Signed.{signed}
use Rattle.encoding.specs.declared.Header.{Header}
use Rattle.encoding.specs.declared.Header.TheVariants as header
use Rattle.std.specs.Prelude.{Result, Ok}
use Rattle.lengths.specs.declared.Flaw.{Flaw}
use Rattle.encoding.specs.Encoding.{header_of}
use Rattle.lengths.specs.Lengths.{payload, bytes_by, own_length}
use Rattle.lengths.proofs.Means.{known}
use Rattle.value.specs.declared.Value.{Value}
use Rattle.value.specs.declared.Value.TheVariants.{Null, Bool as Truth, I8, I16, I32, I64, F32, F32Nan, F64, F64Nan, Bytes}
use Rattle.value.specs.declared.Kind.TheVariants.{Primitive}
use Rattle.value.specs.Reading.{single, double, payload_start, primitive, read_by, measured, reading}

-- BITS: without the sign, a NaN's are above those of infinity
module _ (f : Format) (n : ℕ) where
  pub no_nan : n % top f ≤ ones f * hid f → nan_bits f n ≡ false
  no_nan h = nan_bits_above f n ∙ le-ltb (ones f * hid f) (n % top f) h

  pub a_nan : ones f * hid f < n % top f → nan_bits f n ≡ true
  a_nan h = nan_bits_above f n ∙ lt-ltb (ones f * hid f) (n % top f) h

  pub number : n % top f ≤ ones f * hid f → T (not (nan_bits f n))
  number h = rw (no_nan h) tt

module _ (n : ℕ) where
  pub single_number : n % 0x8000_0000 ≤ 0x7F80_0000 → F32 (of_bits binary32 n) ≡ single n
  unfolding single
  single_number h = rw (no_nan binary32 n h)

  pub single_nan : 0x7F80_0000 < n % 0x8000_0000 → F32Nan n ≡ single n
  unfolding single
  single_nan h = rw (a_nan binary32 n h)

  pub double_number : n % 0x8000_0000_0000_0000 ≤ 0x7FF0_0000_0000_0000 → F64 (of_bits binary64 n) ≡ double n
  unfolding double
  double_number h = rw (no_nan binary64 n h)

  pub double_nan : 0x7FF0_0000_0000_0000 < n % 0x8000_0000_0000_0000 → F64Nan n ≡ double n
  unfolding double
  double_nan h = rw (a_nan binary64 n h)

-- what is so of both is so of either
either : (P : Value → Type 0) (b : Bool) {x y : Value} → (b ≡ true → P x) → (b ≡ false → P y) → P (cond b x y)
either P true p q = p refl
either P false p q = q refl

-- A FLOAT, by whether its bits are a NaN's
module _ (P : Value → Type 0) (n : ℕ) where
  pub by_single : (nan_bits binary32 n ≡ true → P (F32Nan n)) → (nan_bits binary32 n ≡ false → P (F32 (of_bits binary32 n))) → P (single n)
  unfolding single
  by_single = either P (nan_bits binary32 n)

  pub by_double : (nan_bits binary64 n ≡ true → P (F64Nan n)) → (nan_bits binary64 n ≡ false → P (F64 (of_bits binary64 n))) → P (double n)
  unfolding double
  by_double = either P (nan_bits binary64 n)

-- A PRIMITIVE, type by type

-- what is none of the first eight
least : (t : ℕ) → 0 ≤ t
least t = omega arith

next : (k t : ℕ) → k ≤ t → (t ≡ k → ⊥) → k + 1 ≤ t
next k t from e = omega arith

pub from_eight : (t : ℕ) → (t ≡ 0 → ⊥) → (t ≡ 1 → ⊥) → (t ≡ 2 → ⊥) → (t ≡ 3 → ⊥)
    → (t ≡ 4 → ⊥) → (t ≡ 5 → ⊥) → (t ≡ 6 → ⊥) → (t ≡ 7 → ⊥) → 8 ≤ t
from_eight t e0 e1 e2 e3 e4 e5 e6 e7 =
    next 7 t (next 6 t (next 5 t (next 4 t (next 3 t (next 2 t (next 1 t (next 0 t (least t) e0) e1) e2) e3) e4) e5) e6) e7

module _ (P : Value → Type 0) (t : ℕ) (s : List ℕ) (n : ℕ) where
  pub by_type : (t ≡ 0 → P Null) → (t ≡ 1 → P (Truth true)) → (t ≡ 2 → P (Truth false))
      → (t ≡ 3 → P (I8 (signed 1 (drop 1 s)))) → (t ≡ 4 → P (I16 (signed 2 (drop 1 s))))
      → (t ≡ 5 → P (I32 (signed 4 (drop 1 s)))) → (t ≡ 6 → P (I64 (signed 8 (drop 1 s))))
      → (t ≡ 7 → P (double (le 8 (drop 1 s)))) → (t ≡ 14 → P (single (le 4 (drop 1 s))))
      → (8 ≤ t → (t ≡ 14 → ⊥) → P (Bytes (Primitive t) (payload_start t) n)) → P (primitive t s n)
  unfolding primitive
  by_type of0 of1 of2 of3 of4 of5 of6 of7 of14 placed =
      either P (eqb t 0) (λ e. of0 (eqb-true t 0 e)) (λ e0.
      either P (eqb t 1) (λ e. of1 (eqb-true t 1 e)) (λ e1.
      either P (eqb t 2) (λ e. of2 (eqb-true t 2 e)) (λ e2.
      either P (eqb t 3) (λ e. of3 (eqb-true t 3 e)) (λ e3.
      either P (eqb t 4) (λ e. of4 (eqb-true t 4 e)) (λ e4.
      either P (eqb t 5) (λ e. of5 (eqb-true t 5 e)) (λ e5.
      either P (eqb t 6) (λ e. of6 (eqb-true t 6 e)) (λ e6.
      either P (eqb t 7) (λ e. of7 (eqb-true t 7 e)) (λ e7.
      either P (eqb t 14) (λ e. of14 (eqb-true t 14 e)) (λ e14.
      placed
      (from_eight t (eqb-false t 0 e0) (eqb-false t 1 e1) (eqb-false t 2 e2) (eqb-false t 3 e3) (eqb-false t 4 e4) (eqb-false t 5 e5)
      (eqb-false t 6 e6) (eqb-false t 7 e7)) (eqb-false t 14 e14))))))))))

-- one that is read as a place
pub placed_is : (t : ℕ) (s : List ℕ) (n : ℕ) {a : ℕ} → 8 ≤ t → (t ≡ 14 → ⊥) → a ≡ payload_start t → Bytes (Primitive t) a n ≡ primitive t s n
placed_is t s n {a} least no_float is =
    by_type (λ v. Bytes (Primitive t) a n ≡ v) t s n (λ e. absurd (omega arith)) (λ e. absurd (omega arith)) (λ e. absurd (omega arith)) (λ e. absurd (omega arith))
    (λ e. absurd (omega arith)) (λ e. absurd (omega arith)) (λ e. absurd (omega arith)) (λ e. absurd (omega arith)) (λ e. absurd (no_float e))
    (λ _ _. ap (λ x. Bytes (Primitive t) x n) is)

-- THE READING, by the own length, and by the header where it is known
module _ (s : List ℕ) where
  pub by_length : {l : Result ℕ Flaw} → l ≡ own_length s → measured l s ≡ reading s
  unfolding reading
  by_length e = rw e

  module _ (n : ℕ) (own : own_length s ≡ Ok n) where
    pub by_header : {h : Header} → h ≡ header_of (get_or s 0 0) → Ok (read_by h s n) ≡ reading s
    unfolding measured
    by_header e = rw e (by_length (sym own))

    -- its header byte is there, and a primitive's payload
    pub some_byte : 1 ≤ length s
    some_byte = (known s n own).0

    pub payload_there : {t : ℕ} → header.Primitive t ≡ header_of (get_or s 0 0) → 1 + payload t ≤ length s
    unfolding bytes_by
    payload_there e = let k = rw (← e) at (known s n own).1 in omega (arith, k.bytes, k.there)
