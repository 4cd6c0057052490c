-- What a host learns of a value: the strip's words, exactly when; that it is read exactly where it has an own length, so that each field of a
-- listing has a value. Bytes are what a slice has: each is below 256, which is what makes the words fit. Assumes nothing.
use Rattle.rules.proofs.Prelude.{◌≡◌, refl, sym, ap, ◌∙◌, ◌↔◌, true, List, [], ◌∷◌, ◌++◌, ℕ, ◌+◌, ◌*◌, ◌≤◌, ◌<◌, arith, le-ltb, length}
use Rattle.rules.proofs.Prelude.{take, drop, get_or, Answer, code_of}
use Rattle.width.specs.Width.{le}
use Rattle.width.proofs.Laws.{Bytes}
use Rattle.part.specs.Part.{part}
use Rattle.number.specs.Signed.{signed, extended}
use Rattle.std.specs.Prelude.{Result, Ok}
use Rattle.lengths.specs.Lengths.{is_known, own_length}
use Rattle.lengths.proofs.Appended.{whatever_follows}
use Rattle.value.specs.declared.Value.{Value}
use Rattle.value.specs.declared.Refusal.{Refusal}
use Rattle.value.specs.Reading.{payload_start, single, double, reading}
use Rattle.value.specs.Answers.{in_two, value_numbers}
use Rattle.value.specs.Meaning.{OfType, Placed, Reads}
use Rattle.value.specs.Meaning.Reads.{null as r-null, is_true as r-true, is_false as r-false, int8 as r-int8, int16 as r-int16, int32 as r-int32}
use Rattle.value.specs.Meaning.Reads.{int64 as r-int64, double as r-double, double_nan as r-double-nan, float as r-float, float_nan as r-float-nan}
use Rattle.value.specs.Meaning.Reads.{payload as r-payload, after_length as r-after-length, short_string as r-short-string, object as r-object, list as r-list}
use Rattle.value.specs.Meaning.Reads.{no_bytes as r-no-bytes, header_cut as r-cut, past_range as r-range, past_bytes as r-past, no_such_type as r-no-type}
use Rattle.value.proofs.Means as means
use Rattle.value.proofs.Floats.{single_told, double_told}
use Rattle.value.proofs.Measured.{code_read, read_is}
use Rattle.value.proofs.Local.{local, stays, cut}
use Rattle.strip.specs.Shapes.{words_of, value_shape, refusal_words, strip_bytes}
use Rattle.lichenhusk.proofs.Carries.{value_fits}
use Rattle.lichenhusk.specs.Strip.{value_words, returned}
use Rattle.lichenhusk.specs.Promises.{Left, ValuePromise, ListPromise}
use Rattle.host.specs.Host.{word, words_in, Tells, IntegerOf, ValueSays}
use Rattle.host.specs.Host.IntegerOf.{int8, int16, int32, int64}
use Rattle.host.specs.Host.ValueSays.{null, is_true, is_false, integer, double as says-double, float as says-float, place, short_string}
use Rattle.host.specs.Host.ValueSays.{object, list, short, no_such_type}
use Rattle.host.proofs.Carries.{Fits, Said, first_is, tells}
use Rattle.host.proofs.Tells.{own_listed}
use Rattle.host.proofs.Exactly.{exactly}
use Rattle.host.proofs.Appended.{keeps}

module _ (s : List ℕ) (bytes : Bytes s) where
  -- EACH READING'S WORDS, which fit

  abbrev Told : Answer → Type 0
  Told x = Fits (words_of value_shape x) → Said (ValueSays s) (words_of value_shape x)

  -- a float's, whichever case its bits are read as
  double_said : {n : ℕ} (v : Result Value Refusal) → OfType s 7 n → Ok (double (le 8 (drop 1 s))) ≡ v → Told (value_numbers v)
  double_said v b e f = let told = ap value_numbers (sym e) ∙ double_told s bytes in rw told (rw told at f, (λ w. omega arith), says-double b)

  float_said : {n : ℕ} (v : Result Value Refusal) → OfType s 14 n → Ok (single (le 4 (drop 1 s))) ≡ v → Told (value_numbers v)
  float_said v b e f = let told = ap value_numbers (sym e) ∙ single_told s bytes in rw told (rw told at f, (λ w. omega arith), says-float b)

  -- the start and end of bytes
  placed_said : {t n : ℕ} (a : ℕ) → payload_start t ≡ a → OfType s t n → Placed t → Fits (0 ∷ t ∷ 0 ∷ a ∷ n ∷ 0 ∷ []) → Said (ValueSays s) (0 ∷ t ∷ 0 ∷ a ∷ n ∷ 0 ∷ [])
  placed_said a is b p f = (f, (λ w. omega arith), rw is at (place b p))

  pub value_said : Said (ValueSays s) (value_words s)
  unfolding single double payload_start
  value_said = go (reading s) ((means.exactly_when s (reading s)).0 refl) (value_fits s bytes)
    where
      go : (v : Result Value Refusal) → Reads s v → Told (value_numbers v)
      go v (r-null b) f = (f, (λ w. omega arith), null b)
      go v (r-true b) f = (f, (λ w. omega arith), is_true b)
      go v (r-false b) f = (f, (λ w. omega arith), is_false b)
      go v (r-int8 b) f = (f, (λ w. omega arith), integer b int8 refl)
      go v (r-int16 b) f = (f, (λ w. omega arith), integer b int16 refl)
      go v (r-int32 b) f = (f, (λ w. omega arith), integer b int32 refl)
      go v (r-int64 b) f = (f, (λ w. omega arith), integer b int64 refl)
      go v (r-double b e) f = double_said v b (rw e) f
      go v (r-double-nan b e) f = double_said v b (rw e) f
      go v (r-float b e) f = float_said v b (rw e) f
      go v (r-float-nan b e) f = float_said v b (rw e) f
      go v (r-payload b p e) f = placed_said 1 (rw e) b p f
      go v (r-after-length b p e) f = placed_said 5 (rw e) b p f
      go v (r-short-string b) f = (f, (λ w. omega arith), short_string b)
      go v (r-object b) f = (f, (λ w. omega arith), object b)
      go v (r-list b) f = (f, (λ w. omega arith), list b)
      go v (r-no-bytes e) f = (f, (λ w. omega arith), short (r-no-bytes e))
      go v (r-cut a k) f = (f, (λ w. omega arith), short (r-cut a k))
      go v (r-range a k) f = (f, (λ w. omega arith), short (r-range a k))
      go v (r-past a k) f = (f, (λ w. omega arith), short (r-past a k))
      go v (r-no-type a e p) f = (f, (λ w. omega arith), no_such_type (r-no-type a e p))

  -- AND ONLY THESE
  of : (v : Result Value Refusal) → Reads s v → value_words s ≡ words_of value_shape (value_numbers v)
  of v r = ap (λ x. words_of value_shape (value_numbers x)) ((means.exactly_when s v).1 r)

  of_double : {n : ℕ} → OfType s 7 n → value_words s ≡ 0 ∷ 7 ∷ 0 ∷ le 4 (drop 1 s) ∷ le 4 (drop 5 s) ∷ 0 ∷ []
  of_double b = of (Ok (double (le 8 (drop 1 s)))) (means.double_reads s b) ∙ ap (words_of value_shape) (double_told s bytes)

  of_float : {n : ℕ} → OfType s 14 n → value_words s ≡ 0 ∷ 14 ∷ 0 ∷ le 4 (drop 1 s) ∷ 0 ∷ 0 ∷ []
  of_float b = of (Ok (single (le 4 (drop 1 s)))) (means.single_reads s b) ∙ ap (words_of value_shape) (single_told s bytes)

  of_integer : {t w n : ℕ} → IntegerOf t w → OfType s t n → value_words s ≡ words_of value_shape (in_two t (extended (signed w (drop 1 s))))
  of_integer int8 b = of _ (r-int8 b)
  of_integer int16 b = of _ (r-int16 b)
  of_integer int32 b = of _ (r-int32 b)
  of_integer int64 b = of _ (r-int64 b)

  value_only : (words : List ℕ) → ValueSays s words → value_words s ≡ words
  value_only _ (null b) = of _ (r-null b)
  value_only _ (is_true b) = of _ (r-true b)
  value_only _ (is_false b) = of _ (r-false b)
  value_only _ (integer b i e) = rw e (of_integer i b)
  value_only _ (says-double b) = of_double b
  value_only _ (says-float b) = of_float b
  value_only _ (place b p) = of _ (means.placed_reads s b p)
  value_only _ (short_string b) = of _ (r-short-string b)
  value_only _ (object b) = of _ (r-object b)
  value_only _ (list b) = of _ (r-list b)
  value_only _ (short r) = of _ r
  value_only _ (no_such_type r) = of _ r

  -- THE THEOREMS
  module _ (strip : List ℕ) (code : ℕ) (after : List ℕ) (promised : ValuePromise s strip code after) where
    pub value_tells : Tells (ValueSays s) strip code after
    value_tells = tells _ value_shape (value_numbers (reading s)) strip code after promised value_said

    pub value_exactly : strip_bytes ≤ length strip → (words : List ℕ) → (words_in after ≡ words) ↔ ValueSays s words
    value_exactly enough = exactly strip enough _ value_shape (value_numbers (reading s)) value_said value_only promised

-- BYTES AFTER THE VALUE, and a value cut: what a call returned and left, it returns and leaves again
module _ (s strip : List ℕ) {code : ℕ} {after : List ℕ} where
  -- whatever follows the own length
  module _ (n : ℕ) (own : own_length s ≡ Ok n) where
    pub value_local : (u : List ℕ) → ValuePromise s strip code after → ValuePromise (take n s ++ u) strip code after
    value_local u p = rw (local s n own u) p

    pub value_cut : (m : ℕ) → m < n → ValuePromise (take m s) strip code after → Left strip (refusal_words 50 0) code after
    value_cut m before p = rw (cut s n own m before) at p

  -- bytes added lift 50 alone
  pub value_kept : (u : List ℕ) → (code ≡ 50 → ⊥) → ValuePromise s strip code after → ValuePromise (s ++ u) strip code after
  value_kept u settled = keeps value_shape strip _ _ (λ c. ap value_numbers (stays s u (λ e. settled (c ∙ ap (λ v. code_of (value_numbers v)) e))))

-- A VALUE IS READ exactly where it has an own length
module _ (s strip : List ℕ) (enough : strip_bytes ≤ length strip) {code : ℕ} {after : List ℕ} (promised : ValuePromise s strip code after) where
  code_is : code ≡ code_read (reading s)
  unfolding returned
  code_is = promised.returns ∙ rw (le-ltb (length strip) strip_bytes enough) (first_is value_shape (value_numbers (reading s)))

  pub value_read : (code ≡ 0) ↔ (is_known (own_length s) ≡ true)
  value_read = rw code_is (read_is s)

-- so field k of a listing has a value: from its start to the object's end, or by its own bytes alone, whatever follows them
module _ (strip : List ℕ) (code : ℕ) (after d o w words_after : List ℕ) (promised : ListPromise d o w strip code after words_after) (z : code ≡ 0) where
  pub value_listed : (k : ℕ) → k < word after 1 → (u room : List ℕ) → strip_bytes ≤ length room → {c : ℕ} {left : List ℕ}
      → ValuePromise (take (get_or words_after (3 * k + 2) 0) (part o (get_or words_after (3 * k + 1) 0) (word after 4)) ++ u) room c left → c ≡ 0
  value_listed k p u room enough read =
      let own = own_listed strip code after d o w words_after promised z k p in
      let known = whatever_follows (part o (get_or words_after (3 * k + 1) 0) (word after 4)) _ own u in (value_read _ room enough read).1 (rw known refl)
