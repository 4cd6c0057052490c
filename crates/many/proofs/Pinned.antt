-- The promise of `get_all` fixes its whole answer, and the lent words after it: two answers that meet it are equal. Answers are read back
-- out of their numbers, so no two cases have the same. Assumes nothing.
use Rattle.rules.proofs.Prelude.{◌≡◌, refl, sym, ◌∙◌, cond, List, [], ◌∷◌, ℕ, eqb, Answer, gives}
use Rattle.metadata.proofs.Pinned.{refusal_by as dictionary_by, by_back}
use Rattle.object.proofs.Pinned.{refusal_by, refusal_back}
use Rattle.std.specs.Prelude.{Result, Ok, Err}
use Rattle.object.specs.declared.Accepted.{Accepted}
use Rattle.many.specs.declared.Refusal.{Refusal}
use Rattle.many.specs.declared.Refusal.TheVariants.{BadEnd, Layer, NoRoom}
use Rattle.many.specs.Answers.{lookups_numbers}
use Rattle.many.specs.Promises.{GetAllPromise}

-- many names: the answer, and the words after it
lookups_back : Answer → Result Accepted Refusal
lookups_back (gives c (n ∷ v ∷ e ∷ x) p) = Ok (record { count = n; start = v; end = e })
lookups_back (gives c (n ∷ v ∷ []) p) = Err NoRoom
lookups_back (gives c (n ∷ []) p) = Err NoRoom
lookups_back (gives c [] p) = refusal_by (λ r. Err (Layer r)) (cond (eqb c 45) (Err (BadEnd p)) (Err NoRoom)) c p

lookups_back_law : (v : Result Accepted Refusal) → lookups_back (lookups_numbers v) ≡ v
unfolding lookups_back refusal_by dictionary_by
lookups_back_law (Err (BadEnd k)) = refl
lookups_back_law (Err (Layer r)) = refusal_back (λ x. Err (Layer x)) _ r
lookups_back_law (Err NoRoom) = refl
lookups_back_law (Ok a) = refl

pub lookups_injective : (v u : Result Accepted Refusal) → lookups_numbers v ≡ lookups_numbers u → v ≡ u
lookups_injective = by_back lookups_numbers lookups_back lookups_back_law

pub get_all_pinned : (d o names ends words : List ℕ) (r r' : Result Accepted Refusal) (after after' : List ℕ) → GetAllPromise d o names ends words r after
    → GetAllPromise d o names ends words r' after' → (r ≡ r') × (after ≡ after')
get_all_pinned d o names ends words r r' after after' a b =
    (lookups_injective r r' (a.answers ∙ sym b.answers), a.leaves ∙ sym b.leaves)
