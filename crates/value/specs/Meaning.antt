-- What a reading says, in the words of document 02, g), and VariantEncoding.md. proofs/Means.antt shows that `reading` of Reading.antt says the
-- same. Assumes nothing.
use Rattle.std.specs.Prelude.{◌≡◌, true, false, List, ℕ, ◌≤◌, length, drop, get_or, Result, Ok, Err}
use Rattle.std.specs.Float.{binary32, binary64}
use Rattle.std.specs.Float.Ieee.{of_bits, nan_bits}
use Rattle.width.specs.Width.{le}
use Rattle.number.specs.Signed.{signed}
use Rattle.layout.specs.declared.Widths.{Widths}
use Rattle.encoding.specs.declared.Header.{Header}
use Rattle.encoding.specs.declared.Header.TheVariants as header
use Rattle.lengths.specs.declared.Flaw.TheVariants.{Cut, Sum, Longer}
use Rattle.encoding.specs.Encoding.{header_of}
use Rattle.lengths.specs.Lengths.{holds_length}
use Rattle.lengths.specs.Meaning.{Encoded, Lacks}
use Rattle.value.specs.declared.Value.{Value}
use Rattle.value.specs.declared.Value.TheVariants.{Null, Bool as Truth, I8, I16, I32, I64, F32, F32Nan, F64, F64Nan, Bytes}
use Rattle.value.specs.declared.Kind.TheVariants.{Primitive, ShortString, Object, List as AList}
use Rattle.value.specs.declared.Refusal.{Refusal}
use Rattle.value.specs.declared.Refusal.TheVariants.{Short, Unknown}

-- the bytes begin with a value whose header byte says h, of n bytes, which are there
pub record Begins (s : List ℕ) (h : Header) (n : ℕ) : Type 0 where
  pub some : 1 ≤ length s
  pub says : header_of (get_or s 0 0) ≡ h
  pub encoded : Encoded h s n

-- a primitive of type t
abbrev pub OfType : List ℕ → ℕ → ℕ → Type 0
OfType s t n = Begins s (header.Primitive t) n

-- a type that is read as the place of its bytes: decimals, dates and times, binary, string, uuid
pub record Placed (t : ℕ) : Type 0 where
  pub from_eight : 8 ≤ t
  pub no_float : t ≡ 14 → ⊥

-- WHICH BYTES GIVE WHICH CASE
pub data Reads (s : List ℕ) : Result Value Refusal → Type 0 where
  null : {n : ℕ} → OfType s 0 n → Reads s (Ok Null)
  is_true : {n : ℕ} → OfType s 1 n → Reads s (Ok (Truth true))
  is_false : {n : ℕ} → OfType s 2 n → Reads s (Ok (Truth false))
  int8 : {n : ℕ} → OfType s 3 n → Reads s (Ok (I8 (signed 1 (drop 1 s))))
  int16 : {n : ℕ} → OfType s 4 n → Reads s (Ok (I16 (signed 2 (drop 1 s))))
  int32 : {n : ℕ} → OfType s 5 n → Reads s (Ok (I32 (signed 4 (drop 1 s))))
  int64 : {n : ℕ} → OfType s 6 n → Reads s (Ok (I64 (signed 8 (drop 1 s))))
  double : {n : ℕ} → OfType s 7 n → nan_bits binary64 (le 8 (drop 1 s)) ≡ false → Reads s (Ok (F64 (of_bits binary64 (le 8 (drop 1 s)))))
  double_nan : {n : ℕ} → OfType s 7 n → nan_bits binary64 (le 8 (drop 1 s)) ≡ true → Reads s (Ok (F64Nan (le 8 (drop 1 s))))
  float : {n : ℕ} → OfType s 14 n → nan_bits binary32 (le 4 (drop 1 s)) ≡ false → Reads s (Ok (F32 (of_bits binary32 (le 4 (drop 1 s)))))
  float_nan : {n : ℕ} → OfType s 14 n → nan_bits binary32 (le 4 (drop 1 s)) ≡ true → Reads s (Ok (F32Nan (le 4 (drop 1 s))))
  payload : {t n : ℕ} → OfType s t n → Placed t → holds_length t ≡ false → Reads s (Ok (Bytes (Primitive t) 1 n))
  after_length : {t n : ℕ} → OfType s t n → Placed t → holds_length t ≡ true → Reads s (Ok (Bytes (Primitive t) 5 n))
  short_string : {k n : ℕ} → Begins s (header.ShortString k) n → Reads s (Ok (Bytes ShortString 1 n))
  object : {w : Widths} {n : ℕ} → Begins s (header.Object w) n → Reads s (Ok (Bytes Object 0 n))
  list : {w : Widths} {n : ℕ} → Begins s (header.List w) n → Reads s (Ok (Bytes AList 0 n))
  no_bytes : length s ≡ 0 → Reads s (Err Short)
  header_cut : 1 ≤ length s → Lacks s (header_of (get_or s 0 0)) Cut → Reads s (Err Short)
  past_range : 1 ≤ length s → Lacks s (header_of (get_or s 0 0)) Sum → Reads s (Err Short)
  past_bytes : 1 ≤ length s → Lacks s (header_of (get_or s 0 0)) Longer → Reads s (Err Short)
  no_such_type : {t : ℕ} → 1 ≤ length s → header_of (get_or s 0 0) ≡ header.Primitive t → 21 ≤ t → Reads s (Err Unknown)
