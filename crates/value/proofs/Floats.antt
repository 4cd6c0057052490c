-- The bits of every float that is read are those of its bytes, NaN or not: of a single the four bytes after the header byte, of a double the
-- eight, as two words. Assumes nothing.
use Rattle.rules.proofs.Prelude.{◌≡◌, refl, ap, ◌∙◌, List, [], ◌∷◌, ℕ, ◌+◌, ◌*◌, ◌/◌, ◌<◌, arith, drop, accept}
use Prim.Native.Nat.{◌%◌}
use lib.Seq.{get_or-drop}
use Rattle.width.specs.Width.{le}
use Rattle.width.proofs.Laws.{Bytes, le_lt, unpack_above}
use Rattle.std.specs.Prelude.{Result, Ok}
use Rattle.value.specs.declared.Value.{Value}
use Rattle.value.specs.declared.Refusal.{Refusal}
use Rattle.value.specs.Reading.{single, double}
use Rattle.value.specs.Answers.{in_two, value_numbers}
use Rattle.value.specs.Meaning.{OfType}
use Rattle.value.specs.Promises.{ReadPromise}
use Rattle.value.proofs.Bits.{single_bits, double_bits}
use Rattle.value.proofs.Means.{exactly_when, single_reads, double_reads}

module _ (s : List ℕ) (bytes : Bytes s) where
  pub rest_bytes : (at : ℕ) → Bytes (drop at s)
  rest_bytes at k = rw (get_or-drop at s k 0) (bytes (at + k))

  pub four : (at : ℕ) → le 4 (drop at s) < 4294967296
  four at = le_lt 4 (drop at s) (rest_bytes at)

  -- eight bytes are two words
  eight : le 4 (drop 1 s) + 4294967296 * le 4 (drop 5 s) ≡ le 8 (drop 1 s)
  eight = unpack_above 4 4 1 s refl refl

  in_words : in_two 7 (le 8 (drop 1 s)) ≡ accept (7 ∷ le 4 (drop 1 s) ∷ le 4 (drop 5 s) ∷ [])
  in_words =
      let low : le 8 (drop 1 s) % 4294967296 ≡ le 4 (drop 1 s) = omega (arith, eight, four 1) in
      let high : le 8 (drop 1 s) / 4294967296 ≡ le 4 (drop 5 s) = omega (arith, eight, four 1) in rw (low, high)

  pub double_told : value_numbers (Ok (double (le 8 (drop 1 s)))) ≡ accept (7 ∷ le 4 (drop 1 s) ∷ le 4 (drop 5 s) ∷ [])
  double_told = double_bits (le 8 (drop 1 s)) (le_lt 8 (drop 1 s) (rest_bytes 1)) ∙ in_words

  pub single_told : value_numbers (Ok (single (le 4 (drop 1 s)))) ≡ accept (14 ∷ le 4 (drop 1 s) ∷ 0 ∷ [])
  single_told = single_bits (le 4 (drop 1 s)) (four 1)

  -- THE THEOREM, of the code's own answer
  module _ (r : Result Value Refusal) (read : ReadPromise s r) {n : ℕ} where
    pub single_kept : OfType s 14 n → value_numbers r ≡ accept (14 ∷ le 4 (drop 1 s) ∷ 0 ∷ [])
    single_kept b = ap value_numbers (read ∙ (exactly_when s _).1 (single_reads s b)) ∙ single_told

    pub double_kept : OfType s 7 n → value_numbers r ≡ accept (7 ∷ le 4 (drop 1 s) ∷ le 4 (drop 5 s) ∷ [])
    double_kept b = ap value_numbers (read ∙ (exactly_when s _).1 (double_reads s b)) ∙ double_told
