-- The call's promise fixes its whole answer, and both lent buffers after it: two answers that meet it are equal. A refusal is read back out of
-- document 02's number, so no two cases have the same. Assumes nothing.
use Rattle.rules.proofs.Prelude.{◌≡◌, refl, sym, ap, ◌∙◌, cond, List, ℕ, eqb}
use Rattle.writing.specs.Written.{Sizes}
use Rattle.writing.specs.Written.Sizes.{bad, of}
use Rattle.parsing.specs.declared.Refusal.{Refusal}
use Rattle.parsing.specs.declared.Refusal.TheVariants.{NotUtf8, LeadingDot, TrailingDot, Unexpected, Unclosed, Bracket, NoRoom}
use Rattle.std.specs.Prelude.{Result, Ok, Err}
use Rattle.writing.specs.declared.Parsed.{Parsed}
use Rattle.parsing.specs.Answers.{refusal_number, parse_numbers}
use Rattle.parsing.specs.Promises.{ParsePromise}

-- REFUSALS: the number, read back; `other` where it is none of theirs
unfoldable pub refusal_by : {A : Type 0} → (Refusal → A) → A → ℕ → A
refusal_by is other c =
    cond (eqb c 70) (is NotUtf8) (cond (eqb c 71) (is LeadingDot) (cond (eqb c 72) (is TrailingDot) (cond (eqb c 73) (is Unexpected)
    (cond (eqb c 74) (is Unclosed) (cond (eqb c 75) (is Bracket) (cond (eqb c 76) (is NoRoom) other))))))

pub refusal_back : {A : Type 0} (is : Refusal → A) (other : A) (r : Refusal) → refusal_by is other (refusal_number r) ≡ is r
unfolding refusal_by
refusal_back is other NotUtf8 = refl
refusal_back is other LeadingDot = refl
refusal_back is other TrailingDot = refl
refusal_back is other Unexpected = refl
refusal_back is other Unclosed = refl
refusal_back is other Bracket = refl
refusal_back is other NoRoom = refl

-- ANSWERS
reading_back : Sizes → Result Parsed Refusal
reading_back (bad c) = refusal_by Err (Err NoRoom) c
reading_back (of count sum) = Ok (record { count = count; total = sum })

reading_back_law : (r : Result Parsed Refusal) → reading_back (parse_numbers r) ≡ r
unfolding reading_back
reading_back_law (Err r) = refusal_back Err _ r
reading_back_law (Ok p) = refl

pub reading_injective : (r q : Result Parsed Refusal) → parse_numbers r ≡ parse_numbers q → r ≡ q
reading_injective r q e = sym (reading_back_law r) ∙ ap reading_back e ∙ reading_back_law q

-- THE THEOREM
pub parse_pinned : (path names words : List ℕ) (r q : Result Parsed Refusal) (names' names'' words' words'' : List ℕ)
    → ParsePromise path names words r names' words' → ParsePromise path names words q names'' words'' → (r ≡ q) × (names' ≡ names'') × (words' ≡ words'')
parse_pinned path names words r q names' names'' words' words'' a b =
    (reading_injective r q (a.says ∙ sym b.says), a.names_left ∙ sym b.names_left, a.words_left ∙ sym b.words_left)
