-- The call's promise fixes its whole answer: two answers that meet it are equal. An answer is read back out of its numbers, so no two cases
-- have the same. Assumes nothing.
use Rattle.rules.proofs.Prelude.{◌≡◌, refl, sym, ap, ◌∙◌, cond, eqb, List, [], ◌∷◌, ℕ, Answer, gives}
use Rattle.std.specs.Prelude.{Option, Some, None, Result, Ok, Err}
use Rattle.part.specs.declared.Span.{Span}
use Rattle.list.proofs.Pinned as list
use Rattle.elements.specs.declared.Refusal.{Refusal}
use Rattle.elements.specs.declared.Refusal.TheVariants.{TooLong, Empty, BasicType, List as OfList}
use Rattle.elements.specs.Answers.{refusal_number, refusal_place, element_numbers}
use Rattle.elements.specs.Promises.{GetPromise}

-- REFUSALS: number and place, read back; `other` where the number is none of theirs
unfoldable pub refusal_by : {A : Type 0} → (Refusal → A) → A → ℕ → ℕ → A
refusal_by is other c p =
    list.refusal_by (λ r. is (OfList r)) (cond (eqb c 20) (is TooLong) (cond (eqb c 21) (is Empty) (cond (eqb c 22) (is BasicType) other))) c p

pub refusal_back : {A : Type 0} (is : Refusal → A) (other : A) (r : Refusal) → refusal_by is other (refusal_number r) (refusal_place r) ≡ is r
unfolding refusal_by list.refusal_by
refusal_back is other TooLong = refl
refusal_back is other Empty = refl
refusal_back is other BasicType = refl
refusal_back is other (OfList r) = list.refusal_back (λ q. is (OfList q)) _ r

-- ANSWERS
element_back : Answer → Result (Option Span) Refusal
element_back (gives c (n ∷ i ∷ a ∷ e ∷ x) p) = Ok (Some (record { start = a; end = e }))
element_back (gives c (n ∷ i ∷ a ∷ []) p) = Ok None
element_back (gives c (n ∷ i ∷ []) p) = Ok None
element_back (gives c (n ∷ []) p) = Ok None
element_back (gives c [] p) = refusal_by Err (Ok None) c p

element_back_law : (n : ℕ) (r : Result (Option Span) Refusal) → element_back (element_numbers n r) ≡ r
unfolding element_back refusal_by list.refusal_by
element_back_law n (Err r) = refusal_back Err (Ok None) r
element_back_law n (Ok None) = refl
element_back_law n (Ok (Some p)) = refl

pub get_pinned : (v : List ℕ) (n : ℕ) (r q : Result (Option Span) Refusal) → GetPromise v n r → GetPromise v n q → r ≡ q
get_pinned v n r q a b = sym (element_back_law n r) ∙ ap element_back (a ∙ sym b) ∙ element_back_law n q
