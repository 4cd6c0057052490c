-- A value is read exactly where it has an own length: what is refused with 50 or 51 is what has none. Assumes nothing.
use Rattle.rules.proofs.Prelude.{◌≡◌, refl, ◌↔◌, true, List, ℕ, arith, get_or, code_of, false_true}
use Rattle.encoding.specs.declared.Header.{Header}
use Rattle.encoding.specs.declared.Header.TheVariants as header
use Rattle.std.specs.Prelude.{Result, Ok, Err}
use Rattle.lengths.specs.declared.Flaw.{Flaw}
use Rattle.lengths.specs.declared.Flaw.TheVariants.{Cut, Sum, Unknown, Longer}
use Rattle.encoding.specs.Encoding.{header_of}
use Rattle.lengths.specs.Lengths.{is_known, own_length}
use Rattle.value.specs.declared.Value.{Value}
use Rattle.value.specs.declared.Refusal.{Refusal}
use Rattle.value.specs.Reading.{primitive, read_by, measured, reading}
use Rattle.value.specs.Answers.{value_numbers}
use Rattle.value.proofs.Laws.{by_single, by_double, by_type}

-- what a reading's answer begins with: 0, 50 or 51
abbrev pub code_read : Result Value Refusal → ℕ
code_read v = code_of (value_numbers v)

abbrev Good : Value → Type 0
Good v = code_read (Ok v) ≡ 0

primitive_good : (t : ℕ) (s : List ℕ) (n : ℕ) → Good (primitive t s n)
primitive_good t s n =
    by_type Good t s n (λ _. refl) (λ _. refl) (λ _. refl) (λ _. refl) (λ _. refl) (λ _. refl) (λ _. refl)
    (λ _. by_double Good _ (λ _. refl) (λ _. refl)) (λ _. by_single Good _ (λ _. refl) (λ _. refl)) (λ _ _. refl)

by_good : (h : Header) (s : List ℕ) (n : ℕ) → Good (read_by h s n)
unfolding read_by
by_good (header.Primitive t) s n = primitive_good t s n
by_good (header.ShortString k) s n = refl
by_good (header.Object w) s n = refl
by_good (header.List w) s n = refl

module _ (s : List ℕ) where
  told : (l : Result ℕ Flaw) → (code_read (measured l s) ≡ 0) ↔ (is_known l ≡ true)
  unfolding measured
  told (Ok n) = (λ _. refl, λ _. by_good (header_of (get_or s 0 0)) s n)
  told (Err Cut) = (λ e. absurd (omega (arith, e)), λ e. false_true e)
  told (Err Sum) = (λ e. absurd (omega (arith, e)), λ e. false_true e)
  told (Err Unknown) = (λ e. absurd (omega (arith, e)), λ e. false_true e)
  told (Err Longer) = (λ e. absurd (omega (arith, e)), λ e. false_true e)

  -- THE THEOREM
  pub read_is : (code_read (reading s) ≡ 0) ↔ (is_known (own_length s) ≡ true)
  unfolding reading
  read_is = told (own_length s)
