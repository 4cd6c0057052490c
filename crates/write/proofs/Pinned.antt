-- The promise fixes the whole answer and the room after it, whatever scratch held and however long it was: two calls that meet it agree.
-- Assumes nothing.
use Rattle.std.specs.Prelude.{Result, Ok, Err}
use Rattle.rules.proofs.Prelude.{◌≡◌, refl, sym, ◌∙◌, cond, List, [], ◌∷◌, ℕ, eqb, Answer, gives}
use Rattle.metadata.proofs.Pinned.{by_back}
use Rattle.write.specs.declared.Written.{Written}
use Rattle.write.specs.declared.Refusal.{Refusal}
use Rattle.write.specs.declared.Refusal.TheVariants as refusal
use Rattle.write.specs.Answers.{written_numbers}
use Rattle.write.specs.Promises.{DictionaryPromise}

-- each case is read back from its number
back : Answer → Result Written Refusal
back (gives code [] place) = Err (cond (eqb code 45) (refusal.BadName place) (cond (eqb code 10) refusal.TooLong refusal.NoRoom))
back (gives code (n ∷ []) place) = Err refusal.NoRoom
back (gives code (n ∷ m ∷ rest) place) = Ok (record { count = n; length = m })

back_is : (r : Result Written Refusal) → back (written_numbers r) ≡ r
unfolding back
back_is (Err (refusal.BadName k)) = refl
back_is (Err refusal.TooLong) = refl
back_is (Err refusal.NoRoom) = refl
back_is (Ok w) = refl

pub written_injective : (r r' : Result Written Refusal) → written_numbers r ≡ written_numbers r' → r ≡ r'
written_injective = by_back written_numbers back back_is

pub write_pinned : (run ends room : List ℕ) (r r' : Result Written Refusal) (after after' : List ℕ) → DictionaryPromise run ends room r after → DictionaryPromise run ends room r' after'
    → (r ≡ r') × (after ≡ after')
write_pinned run ends room r r' after after' p q =
    (written_injective r r' (p.answer ∙ sym q.answer), p.leaves ∙ sym q.leaves)
