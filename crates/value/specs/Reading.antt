-- Reading a value (document 02, g; VariantEncoding.md, "Encoding types"): a null, a truth value, a signed integer of its width, a float by its
-- bits, or the place of its bytes. s is the bytes that begin with the value. Assumes nothing.
use Rattle.std.specs.Prelude.{true, false, cond, List, ℕ, eqb, drop, get_or, Result, Ok, Err}
use Rattle.std.specs.Float.{binary32, binary64}
use Rattle.std.specs.Float.Ieee.{of_bits, nan_bits}
use Rattle.width.specs.Width.{le}
use Rattle.number.specs.Signed.{signed}
use Rattle.encoding.specs.declared.Header.{Header}
use Rattle.encoding.specs.declared.Header.TheVariants as header
use Rattle.lengths.specs.declared.Flaw.{Flaw}
use Rattle.lengths.specs.declared.Flaw.TheVariants as flaw
use Rattle.encoding.specs.Encoding.{header_of}
use Rattle.lengths.specs.Lengths.{holds_length, own_length}
use Rattle.value.specs.declared.Value.{Value}
use Rattle.value.specs.declared.Value.TheVariants.{Null, Bool as Truth, I8, I16, I32, I64, F32, F32Nan, F64, F64Nan, Bytes}
use Rattle.value.specs.declared.Kind.TheVariants.{Primitive, ShortString, Object, List as AList}
use Rattle.value.specs.declared.Refusal.{Refusal}
use Rattle.value.specs.declared.Refusal.TheVariants.{Short, Unknown}

-- FLOATS, by their bits. `of_bits` has one not-a-number, so that the bits of each stand for it
unfoldable pub single : ℕ → Value
single n = cond (nan_bits binary32 n) (F32Nan n) (F32 (of_bits binary32 n))

unfoldable pub double : ℕ → Value
double n = cond (nan_bits binary64 n) (F64Nan n) (F64 (of_bits binary64 n))

-- PRIMITIVES, by their type; n is where the value ends

-- the payload of types 15 and 16 starts after the length
unfoldable pub payload_start : ℕ → ℕ
payload_start t = cond (holds_length t) 5 1

unfoldable pub primitive : ℕ → List ℕ → ℕ → Value
primitive t s n =
    cond (eqb t 0) Null
    (cond (eqb t 1) (Truth true)
    (cond (eqb t 2) (Truth false)
    (cond (eqb t 3) (I8 (signed 1 (drop 1 s)))
    (cond (eqb t 4) (I16 (signed 2 (drop 1 s)))
    (cond (eqb t 5) (I32 (signed 4 (drop 1 s)))
    (cond (eqb t 6) (I64 (signed 8 (drop 1 s)))
    (cond (eqb t 7) (double (le 8 (drop 1 s)))
    (cond (eqb t 14) (single (le 4 (drop 1 s)))
    (Bytes (Primitive t) (payload_start t) n)))))))))

-- ALL VALUES, by what the header byte says. Of an other than a primitive the bytes are told as they are
unfoldable pub read_by : Header → List ℕ → ℕ → Value
read_by (header.Primitive t) s n = primitive t s n
read_by (header.ShortString k) s n = Bytes ShortString 1 n
read_by (header.Object w) s n = Bytes Object 0 n
read_by (header.List w) s n = Bytes AList 0 n

-- 51 for an unknown primitive type, 50 for all else that has no own length within its bytes and the u32 range
abbrev pub of_length : Flaw → Refusal
of_length flaw.Cut = Short
of_length flaw.Sum = Short
of_length flaw.Unknown = Unknown
of_length flaw.Longer = Short

unfoldable pub measured : Result ℕ Flaw → List ℕ → Result Value Refusal
measured (Ok n) s = Ok (read_by (header_of (get_or s 0 0)) s n)
measured (Err f) s = Err (of_length f)

unfoldable pub reading : List ℕ → Result Value Refusal
reading s = measured (own_length s) s
