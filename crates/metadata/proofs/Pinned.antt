-- Each public call's promise fixes its whole answer, and the lent room after it: two answers that meet it are equal. Each answer is read back
-- out of document 01's numbers, so no two cases have the same. Assumes nothing.
use Rattle.std.specs.Prelude.{Result, Ok, Err, Option, Some, None, ⊤}
use Rattle.rules.proofs.Prelude.{◌≡◌, refl, sym, ap, ◌∙◌, cond, List, ℕ, ◌+◌, eqb, get_or, Answer, Found, gives, pass, stop}
use Rattle.dictionary.specs.declared.Header.{Header}
use Rattle.dictionary.specs.declared.Refusal.{Refusal}
use Rattle.dictionary.specs.declared.Refusal.TheVariants.{TooLong, Empty, Version, Short, Sum, FirstOffset, NotUtf8, Range, NotAbove, CutText}
use Rattle.dictionary.specs.Dictionary.{sorted, width, count, offset, start, end, checks}
use Rattle.dictionary.specs.Answers.{refusal_number, refusal_place}
use Rattle.part.specs.declared.Span.{Span}
use Rattle.metadata.specs.declared.Accepted.{Accepted}
use Rattle.metadata.specs.declared.NoRoom.{NoRoom}
use Rattle.metadata.specs.Answers.{verdict_numbers, entry_numbers, written_numbers}
use Rattle.metadata.specs.Steps.{CheckedOf, SpanOf}
use Rattle.metadata.specs.Promises.{CheckPromise, GetPromise, WriteEmptyPromise}

-- REFUSALS: number and place, read back; `other` where the number is none of theirs
unfoldable pub refusal_by : {A : Type 0} → (Refusal → A) → A → ℕ → ℕ → A
refusal_by is other c p =
    cond (eqb c 10) (is TooLong)
    (cond (eqb c 11) (is Empty)
    (cond (eqb c 12) (is Version)
    (cond (eqb c 13) (is Short)
    (cond (eqb c 14) (is Sum)
    (cond (eqb c 15) (is FirstOffset)
    (cond (eqb c 16) (is (NotUtf8 p))
    (cond (eqb c 17) (is (Range p)) (cond (eqb c 18) (is (NotAbove p)) (cond (eqb c 19) (is (CutText p)) other)))))))))

pub refusal_back : {A : Type 0} (is : Refusal → A) (other : A) (r : Refusal) → refusal_by is other (refusal_number r) (refusal_place r) ≡ is r
unfolding refusal_by
refusal_back is other TooLong = refl
refusal_back is other Empty = refl
refusal_back is other Version = refl
refusal_back is other Short = refl
refusal_back is other Sum = refl
refusal_back is other FirstOffset = refl
refusal_back is other (NotUtf8 p) = refl
refusal_back is other (Range k) = refl
refusal_back is other (NotAbove k) = refl
refusal_back is other (CutText p) = refl

-- the case that a number is
pub by_number : (r : Refusal) {c : ℕ} → refusal_number r ≡ c → r ≡ refusal_by (λ x. x) TooLong c (refusal_place r)
by_number r e = rw (← e) (sym (refusal_back (λ x. x) TooLong r))

pub refusal_injective : (r q : Refusal) → refusal_number r ≡ refusal_number q → refusal_place r ≡ refusal_place q → r ≡ q
refusal_injective r q c p = by_number r c ∙ rw p (refusal_back (λ x. x) TooLong q)

-- two values that read back out of the same answer are equal
pub by_back : {A B : Type 0} (f : A → B) (back : B → A) → ((a : A) → back (f a) ≡ a) → (a b : A) → f a ≡ f b → a ≡ b
by_back f back is a b e = sym (is a) ∙ ap back e ∙ is b

-- ANSWERS
verdict_back : Answer → Result Accepted Refusal
verdict_back (gives c v p) = refusal_by Err (Ok (record { count = get_or v 0 0; end = get_or v 1 0 })) c p

verdict_back_law : (v : Result Accepted Refusal) → verdict_back (verdict_numbers v) ≡ v
unfolding verdict_back refusal_by
verdict_back_law (Err r) = refusal_back Err _ r
verdict_back_law (Ok a) = refl

pub verdict_injective : (v u : Result Accepted Refusal) → verdict_numbers v ≡ verdict_numbers u → v ≡ u
verdict_injective = by_back verdict_numbers verdict_back verdict_back_law

entry_back : Answer → Result (Option Span) Refusal
entry_back (gives c v p) =
    refusal_by Err (cond (eqb c 31) (Ok None) (Ok (Some (record { start = get_or v 0 0; end = get_or v 1 0 })))) c p

entry_back_law : (v : Result (Option Span) Refusal) → entry_back (entry_numbers v) ≡ v
unfolding entry_back refusal_by
entry_back_law (Err r) = refusal_back Err _ r
entry_back_law (Ok None) = refl
entry_back_law (Ok (Some s)) = refl

pub entry_injective : (v u : Result (Option Span) Refusal) → entry_numbers v ≡ entry_numbers u → v ≡ u
entry_injective = by_back entry_numbers entry_back entry_back_law

written_back : Answer → Result ⊤ NoRoom
written_back (gives c v p) = cond (eqb c 42) (Err (record {})) (Ok tt)

written_back_law : (v : Result ⊤ NoRoom) → written_back (written_numbers v) ≡ v
unfolding written_back
written_back_law (Err _) = refl
written_back_law (Ok _) = refl

pub written_injective : (v u : Result ⊤ NoRoom) → written_numbers v ≡ written_numbers u → v ≡ u
written_injective = by_back written_numbers written_back written_back_law

-- NUMBERS HANDED ON: the one head and the one span that meet their promise
unfoldable pub head_by : List ℕ → Found → Result Header Refusal
head_by d (stop c p) = refusal_by Err (Err TooLong) c p
head_by d pass = Ok (record { width = width d; sorted = sorted d; count = count d; start = start d; end = end d })

pub head_is : (d : List ℕ) (r : Result Header Refusal) → CheckedOf d r → head_by d (checks d) ≡ r
unfolding head_by
head_is d (Err r) e = rw e (refusal_back Err (Err TooLong) r)
head_is d (Ok h) (o, e) = rw (e, ← o.width_is, ← o.sorted_is, ← o.count_is, ← o.start_is, ← o.end_is)

span_is : (d : List ℕ) (i : ℕ) (r : Span) → SpanOf d i r → record { start = start d + offset d i; end = start d + offset d (i + 1) } ≡ r
span_is d i r o = rw (← o.start_is, ← o.end_is)

-- THE THEOREMS, a call each
pub check_pinned : (d : List ℕ) (r q : Result Accepted Refusal) → CheckPromise d r → CheckPromise d q → r ≡ q
check_pinned d r q a b = verdict_injective r q (a ∙ sym b)

pub get_pinned : (d : List ℕ) (i : ℕ) (r q : Result (Option Span) Refusal) → GetPromise d i r → GetPromise d i q → r ≡ q
get_pinned d i r q a b = entry_injective r q (a ∙ sym b)

pub checked_pinned : (d : List ℕ) (r q : Result Header Refusal) → CheckedOf d r → CheckedOf d q → r ≡ q
checked_pinned d r q a b = sym (head_is d r a) ∙ head_is d q b

pub span_pinned : (d : List ℕ) (i : ℕ) (r q : Span) → SpanOf d i r → SpanOf d i q → r ≡ q
span_pinned d i r q a b = sym (span_is d i r a) ∙ span_is d i q b

pub empty_pinned : (room : List ℕ) (r q : Result ⊤ NoRoom) (after after' : List ℕ) → WriteEmptyPromise room r after → WriteEmptyPromise room q after' → (r ≡ q) × (after ≡ after')
empty_pinned room r q after after' a b = (written_injective r q (a.answers ∙ sym b.answers), a.leaves ∙ sym b.leaves)
