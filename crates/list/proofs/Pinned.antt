-- Each public call's promise fixes its whole answer: two answers that meet it are equal. A refusal is read back out of document 02's number
-- and place, so no two cases have the same. Assumes nothing.
use Rattle.rules.proofs.Prelude.{◌≡◌, refl, sym, ap, ap₂, ◌∙◌, cond, List, ℕ, ◌+◌, arith, eqb}
use Rattle.layout.specs.declared.Widths.{Widths}
use Rattle.layout.specs.declared.Numbers.{Numbers}
use Rattle.std.specs.Prelude.{Result, Ok, Err}
use Rattle.layout.specs.Layout.{child_start}
use Rattle.layout.specs.Steps.{NumbersOf}
use Rattle.layout.proofs.Pinned.{read_pinned}
use Rattle.list.specs.declared.Refusal.{Refusal}
use Rattle.list.specs.declared.Refusal.TheVariants.{Short, Sum, Offset}
use Rattle.part.specs.declared.Span.{Span}
use Rattle.list.specs.Answers.{refusal_number, refusal_place}
use Rattle.list.specs.Steps.{CheckedOf, ElementOf}

-- REFUSALS: number and place, read back; `other` where the number is none of theirs
unfoldable pub refusal_by : {A : Type 0} → (Refusal → A) → A → ℕ → ℕ → A
refusal_by is other c p = cond (eqb c 60) (is Short) (cond (eqb c 61) (is Sum) (cond (eqb c 62) (is (Offset p)) other))

pub refusal_back : {A : Type 0} (is : Refusal → A) (other : A) (r : Refusal) → refusal_by is other (refusal_number r) (refusal_place r) ≡ is r
unfolding refusal_by
refusal_back is other Short = refl
refusal_back is other Sum = refl
refusal_back is other (Offset k) = refl

pub refusal_injective : (r q : Refusal) → refusal_number r ≡ refusal_number q → refusal_place r ≡ refusal_place q → r ≡ q
refusal_injective r q c p =
    sym (refusal_back (λ x. x) Short r) ∙ ap₂ (refusal_by (λ x. x) Short) c p ∙ refusal_back (λ x. x) Short q

module _ (w : Widths) (s : List ℕ) where
  numbers_pinned : (l n : Numbers) → NumbersOf s w l → NumbersOf s w n → l ≡ n
  numbers_pinned l n a b = let same = read_pinned w s (Ok l) (Ok n) a b in cc

  -- THE THEOREMS, a call each
  pub check_pinned : (r q : Result Numbers Refusal) → CheckedOf w s r → CheckedOf w s q → r ≡ q
  check_pinned (Err r) (Err q) a b = ap Err (refusal_injective r q (cc) (cc))
  check_pinned (Err r) (Ok n) a b = let c = b.passes in let z : ◌≡◌ {A = ℕ} 0 1 = cc in absurd (omega arith)
  check_pinned (Ok l) (Err q) a b = let c = a.passes in let z : ◌≡◌ {A = ℕ} 0 1 = cc in absurd (omega arith)
  check_pinned (Ok l) (Ok n) a b = ap Ok (numbers_pinned l n a.numbers b.numbers)

  -- the one span that meets the promise
  span_is : (k : ℕ) (r : Span) → ElementOf w s k r → record { start = child_start w s k; end = child_start w s (k + 1) } ≡ r
  span_is k r h = rw (← h.start_is, ← h.end_is)

  pub element_pinned : (k : ℕ) (r q : Span) → ElementOf w s k r → ElementOf w s k q → r ≡ q
  element_pinned k r q a b = sym (span_is k r a) ∙ span_is k q b
