-- Document 02's number and values for each case of a reading: its kind and its 64 bits in two words, or the start and end of its bytes.
-- Assumes nothing.
use Rattle.std.specs.Prelude.{true, false, not, [], ◌∷◌, ℕ, ◌/◌, ◌%◌, T, Result, Ok, Err}
use Rattle.std.specs.Float.{binary32, binary64}
use Rattle.std.specs.Float.Ieee.{to_bits, is_nan}
use Rattle.rules.specs.Rules.{Answer, refuse, accept}
use Rattle.number.specs.Signed.{extended}
use Rattle.value.specs.declared.Value.{Value}
use Rattle.value.specs.declared.Value.TheVariants.{Null, Bool as Truth, I8, I16, I32, I64, F32, F32Nan, F64, F64Nan, Bytes}
use Rattle.value.specs.declared.Kind.{Kind}
use Rattle.value.specs.declared.Kind.TheVariants.{Primitive, ShortString, Object, List as AList}
use Rattle.value.specs.declared.Refusal.{Refusal}
use Rattle.value.specs.declared.Refusal.TheVariants.{Short, Unknown}

-- 64 bits in two words, the lower one first
abbrev pub in_two : (kind bits : ℕ) → Answer
in_two kind bits = accept (kind ∷ bits % 4294967296 ∷ bits / 4294967296 ∷ [])

-- the primitive type, or 256 plus the basic type
abbrev pub kind_number : Kind → ℕ
kind_number (Primitive t) = t
kind_number ShortString = 257
kind_number Object = 258
kind_number AList = 259

abbrev pub value_numbers : Result Value Refusal → Answer
value_numbers (Ok Null) = accept (0 ∷ 0 ∷ 0 ∷ [])
value_numbers (Ok (Truth true)) = accept (1 ∷ 0 ∷ 0 ∷ [])
value_numbers (Ok (Truth false)) = accept (2 ∷ 0 ∷ 0 ∷ [])
value_numbers (Ok (I8 z)) = in_two 3 (extended z)
value_numbers (Ok (I16 z)) = in_two 4 (extended z)
value_numbers (Ok (I32 z)) = in_two 5 (extended z)
value_numbers (Ok (I64 z)) = in_two 6 (extended z)
value_numbers (Ok (F64 x)) = in_two 7 (to_bits binary64 x)
value_numbers (Ok (F64Nan n)) = in_two 7 n
value_numbers (Ok (F32 x)) = accept (14 ∷ to_bits binary32 x ∷ 0 ∷ [])
value_numbers (Ok (F32Nan n)) = accept (14 ∷ n ∷ 0 ∷ [])
value_numbers (Ok (Bytes kind start end)) = accept (kind_number kind ∷ start ∷ end ∷ [])
value_numbers (Err Short) = refuse 50 0
value_numbers (Err Unknown) = refuse 51 0

-- a float that is no NaN: of such a one alone the bits are told
abbrev pub Numeral : Result Value Refusal → Type 0
Numeral (Ok Null) = Unit {0}
Numeral (Ok (Truth b)) = Unit {0}
Numeral (Ok (I8 z)) = Unit {0}
Numeral (Ok (I16 z)) = Unit {0}
Numeral (Ok (I32 z)) = Unit {0}
Numeral (Ok (I64 z)) = Unit {0}
Numeral (Ok (F64 x)) = T (not (is_nan x))
Numeral (Ok (F64Nan n)) = Unit {0}
Numeral (Ok (F32 x)) = T (not (is_nan x))
Numeral (Ok (F32Nan n)) = Unit {0}
Numeral (Ok (Bytes kind start end)) = Unit {0}
Numeral (Err r) = Unit {0}
