-- The bits of every float are read back exactly, a NaN's too: those that an answer tells are those that were there. So a float that is read is
-- never the one NaN of the logic, and every other reading tells its bits as it is. Assumes nothing.
use Rattle.rules.proofs.Prelude.{◌≡◌, refl, sym, ◌∙◌, false, not, List, [], ◌∷◌, ℕ, ◌<◌, accept, drop, get_or}
use Prim.Native.Nat.{◌^◌, ◌*◌}
use lib.Dec.{T}
use lib.Ieee.{Format, binary32, binary64, of_bits, to_bits, nan_bits, is_nan, top}
use lib.Ieee.Bits.{nan_bits_is, to_bits-of_bits}
use Rattle.width.specs.Width.{le}
use Rattle.encoding.specs.declared.Header.{Header}
use Rattle.encoding.specs.declared.Header.TheVariants as header
use Rattle.std.specs.Prelude.{Result, Ok, Err}
use Rattle.lengths.specs.declared.Flaw.{Flaw}
use Rattle.encoding.specs.Encoding.{header_of}
use Rattle.lengths.specs.Lengths.{own_length}
use Rattle.value.specs.Reading.{single, double, primitive, read_by, measured, reading}
use Rattle.value.specs.Answers.{in_two, value_numbers, Numeral}
use Rattle.value.proofs.Laws.{by_single, by_double, by_type}

-- NO NAN is read as a float
number_is : (f : Format) (n : ℕ) → nan_bits f n ≡ false → T (not (is_nan (of_bits f n)))
number_is f n e = rw (sym (nan_bits_is f n) ∙ e) tt

primitive_numeral : (t : ℕ) (s : List ℕ) (n : ℕ) → Numeral (Ok (primitive t s n))
primitive_numeral t s n =
    by_type (λ v. Numeral (Ok v)) t s n (λ _. tt) (λ _. tt) (λ _. tt) (λ _. tt) (λ _. tt) (λ _. tt) (λ _. tt)
    (λ _. by_double (λ v. Numeral (Ok v)) (le 8 (drop 1 s)) (λ e. tt) (number_is binary64 _)) (λ _. by_single (λ v. Numeral (Ok v)) (le 4 (drop 1 s)) (λ e. tt) (number_is binary32 _))
    (λ _ _. tt)

by_numeral : (h : Header) (s : List ℕ) (n : ℕ) → Numeral (Ok (read_by h s n))
unfolding read_by
by_numeral (header.Primitive t) s n = primitive_numeral t s n
by_numeral (header.ShortString k) s n = tt
by_numeral (header.Object w) s n = tt
by_numeral (header.List w) s n = tt

pub numeral : (s : List ℕ) → Numeral (reading s)
unfolding reading measured
numeral s = go (own_length s)
  where
    go : (l : Result ℕ Flaw) → Numeral (measured l s)
    go (Ok n) = by_numeral (header_of (get_or s 0 0)) s n
    go (Err f) = tt

-- THE BITS, of every pattern of their width
kept : (f : Format) (n : ℕ) → n < 2 * top f → nan_bits f n ≡ false → to_bits f (of_bits f n) ≡ n
kept f n small e = to_bits-of_bits f n small (number_is f n e)

pub single_bits : (n : ℕ) → n < 256 ^ 4 → value_numbers (Ok (single n)) ≡ accept (14 ∷ n ∷ 0 ∷ [])
single_bits n small = by_single (λ v. value_numbers (Ok v) ≡ accept (14 ∷ n ∷ 0 ∷ [])) n (λ e. refl) (λ e. rw (kept binary32 n small e))

pub double_bits : (n : ℕ) → n < 256 ^ 8 → value_numbers (Ok (double n)) ≡ in_two 7 n
double_bits n small = by_double (λ v. value_numbers (Ok v) ≡ in_two 7 n) n (λ e. refl) (λ e. rw (kept binary64 n small e))
