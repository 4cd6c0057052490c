-- No word of a value's answer is too large for its four bytes, so that a strip carries the answer whole. Bytes are what a slice has: each is below
-- 256, which is what makes the words fit. Assumes nothing.
use Rattle.rules.proofs.Prelude.{◌≡◌, refl, List, [], ◌∷◌, ℕ, ◌≤◌, ◌<◌, arith, length, drop}
use Rattle.width.specs.Width.{le}
use Rattle.width.specs.Limits.{u32_max}
use Rattle.width.proofs.Laws.{Bytes}
use Rattle.number.specs.Signed.{signed, extended}
use Rattle.number.proofs.Means.{extended_small}
use Rattle.encoding.specs.declared.Header.{Header}
use Rattle.std.specs.Prelude.{Result, Ok}
use Rattle.value.specs.declared.Value.{Value}
use Rattle.value.specs.declared.Refusal.{Refusal}
use Rattle.value.specs.Reading.{payload_start, single, double, reading}
use Rattle.value.specs.Answers.{in_two, value_numbers}
use Rattle.value.specs.Meaning.{Begins, OfType, Reads}
use Rattle.value.specs.Meaning.Reads.{null, is_true, is_false, int8, int16, int32, int64, double as r-double, double_nan, float, float_nan, payload, after_length}
use Rattle.value.specs.Meaning.Reads.{short_string, object, list, no_bytes, header_cut, past_range, past_bytes, no_such_type}
use Rattle.value.proofs.Means as means
use Rattle.value.proofs.Floats.{rest_bytes, four, single_told, double_told}
use Rattle.strip.specs.Shapes.{words_of, value_shape, strip_bytes}
use Rattle.strip.specs.Reading.{words_in}
use Rattle.strip.proofs.Carries.{Fits, carried}
use Rattle.value_call.specs.Promises.{value_words, ValuePromise}

module _ (s : List ℕ) (bytes : Bytes s) where
  -- an integer's, of w bytes
  integer_fits : {t : ℕ} (w : ℕ) → w ≤ 8 → t < 21 → Fits (words_of value_shape (in_two t (extended (signed w (drop 1 s)))))
  integer_fits w few known = let x = extended_small w (drop 1 s) (rest_bytes s bytes 1) few in omega arith

  -- a float's, whichever case its bits are read as
  double_fits : Fits (words_of value_shape (value_numbers (Ok (double (le 8 (drop 1 s))))))
  double_fits = let l = four s bytes 1 in let h = four s bytes 5 in rw (double_told s bytes) (omega arith)

  float_fits : Fits (words_of value_shape (value_numbers (Ok (single (le 4 (drop 1 s))))))
  float_fits = let l = four s bytes 1 in rw (single_told s bytes) (omega arith)

  -- the start and end of bytes
  placed_fits : {t n : ℕ} (a : ℕ) → a ≤ 5 → OfType s t n → Fits (0 ∷ t ∷ 0 ∷ a ∷ n ∷ 0 ∷ [])
  unfolding u32_max
  placed_fits a near b = let known = b.encoded.headed.known in let small = b.encoded.fits in omega arith

  begun_fits : {h : Header} {n : ℕ} (kind a : ℕ) → kind < 260 → a < 2 → Begins s h n → Fits (0 ∷ kind ∷ 0 ∷ a ∷ n ∷ 0 ∷ [])
  unfolding u32_max
  begun_fits kind a few near b = let small = b.encoded.fits in omega arith

  pub value_fits : Fits (value_words s)
  unfolding single double payload_start
  value_fits = go (reading s) ((means.exactly_when s (reading s)).0 refl)
    where
      go : (v : Result Value Refusal) → Reads s v → Fits (words_of value_shape (value_numbers v))
      go v (null b) = omega arith
      go v (is_true b) = omega arith
      go v (is_false b) = omega arith
      go v (int8 b) = integer_fits 1 (omega arith) (omega arith)
      go v (int16 b) = integer_fits 2 (omega arith) (omega arith)
      go v (int32 b) = integer_fits 4 (omega arith) (omega arith)
      go v (int64 b) = integer_fits 8 (omega arith) (omega arith)
      go v (r-double b e) = rw e at double_fits
      go v (double_nan b e) = rw e at double_fits
      go v (float b e) = rw e at float_fits
      go v (float_nan b e) = rw e at float_fits
      go v (payload b p e) = placed_fits 1 (omega arith) b
      go v (after_length b p e) = placed_fits 5 (omega arith) b
      go v (short_string b) = begun_fits 257 1 (omega arith) (omega arith) b
      go v (object b) = begun_fits 258 0 (omega arith) (omega arith) b
      go v (list b) = begun_fits 259 0 (omega arith) (omega arith) b
      go v (no_bytes e) = omega arith
      go v (header_cut a k) = omega arith
      go v (past_range a k) = omega arith
      go v (past_bytes a k) = omega arith
      go v (no_such_type a e p) = omega arith

  pub value_carried : {strip : List ℕ} {code : ℕ} {after : List ℕ} → ValuePromise s strip code after → strip_bytes ≤ length strip → words_in after ≡ value_words s
  value_carried left enough = carried value_shape (value_numbers (reading s)) left enough value_fits
