-- The promise fixes the whole answer and the room after it, whatever scratch held and however long it was: two calls that meet it agree.
-- Assumes nothing.
use Rattle.std.specs.Prelude.{Result, Ok, Err}
use Rattle.rules.proofs.Prelude.{◌≡◌, refl, sym, ◌∙◌, cond, List, ℕ, eqb, get_or, Answer, gives}
use Rattle.metadata.proofs.Pinned.{refusal_by, refusal_back, by_back}
use Rattle.write_object.specs.declared.Built.{Built}
use Rattle.write_object.specs.declared.Refusal.{Refusal}
use Rattle.write_object.specs.declared.Refusal.TheVariants as refusal
use Rattle.write_object.specs.Answers.{built_numbers}
use Rattle.write_object.specs.Promises.{ObjectPromise}

-- each case is read back from its number
own : ℕ → ℕ → List ℕ → Result Built Refusal
own c p v =
    cond (eqb c 25) (Err (refusal.NoSuchEntry p))
    (cond (eqb c 26) (Err (refusal.Double p))
    (cond (eqb c 45) (Err (refusal.Outside p))
    (cond (eqb c 28) (Err (refusal.EmptyChild p))
    (cond (eqb c 20) (Err refusal.TooLong) (cond (eqb c 46) (Err refusal.NoRoom) (Ok (record { count = get_or v 0 0; start = get_or v 1 0; length = get_or v 2 0 })))))))

back : Answer → Result Built Refusal
back (gives c v p) = refusal_by (λ r. Err (refusal.Dictionary r)) (own c p v) c p

back_is : (r : Result Built Refusal) → back (built_numbers r) ≡ r
unfolding back own refusal_by
back_is (Err (refusal.Dictionary r)) = refusal_back (λ r. Err (refusal.Dictionary r)) _ r
back_is (Err (refusal.NoSuchEntry k)) = refl
back_is (Err (refusal.Double k)) = refl
back_is (Err (refusal.Outside k)) = refl
back_is (Err (refusal.EmptyChild k)) = refl
back_is (Err refusal.TooLong) = refl
back_is (Err refusal.NoRoom) = refl
back_is (Ok b) = refl

pub built_injective : (r r' : Result Built Refusal) → built_numbers r ≡ built_numbers r' → r ≡ r'
built_injective = by_back built_numbers back back_is

pub write_pinned : (d bytes words room : List ℕ) (r r' : Result Built Refusal) (after after' : List ℕ)
    → ObjectPromise d bytes words room r after → ObjectPromise d bytes words room r' after' → (r ≡ r') × (after ≡ after')
write_pinned d bytes words room r r' after after' p q = (built_injective r r' (p.answer ∙ sym q.answer), p.leaves ∙ sym q.leaves)
