-- The call's promise fixes its whole answer, and the lent words after it: two answers that meet it are equal. The answer is read back out of
-- document 01's numbers, so no two cases have the same. Assumes nothing.
use Rattle.rules.proofs.Prelude.{◌≡◌, refl, sym, ◌∙◌, cond, List, [], ◌∷◌, ℕ, eqb, Answer, gives}
use Rattle.metadata.proofs.Pinned.{refusal_by as dictionary_by, by_back}
use Rattle.object.proofs.Pinned.{refusal_by, refusal_back}
use Rattle.std.specs.Prelude.{Result, Ok, Err}
use Rattle.object.specs.declared.Accepted.{Accepted}
use Rattle.listing.specs.declared.Refusal.{Refusal}
use Rattle.listing.specs.declared.Refusal.TheVariants.{Layer, NoLength, NoRoom}
use Rattle.listing.specs.Answers.{listing_numbers}
use Rattle.listing.specs.Promises.{ListPromise}

listing_back : Answer → Result Accepted Refusal
listing_back (gives c (n ∷ v ∷ e ∷ x) p) = Ok (record { count = n; start = v; end = e })
listing_back (gives c (n ∷ v ∷ []) p) = Err NoRoom
listing_back (gives c (n ∷ []) p) = Err NoRoom
listing_back (gives c [] p) = refusal_by (λ r. Err (Layer r)) (cond (eqb c 43) (Err (NoLength p)) (Err NoRoom)) c p

listing_back_law : (v : Result Accepted Refusal) → listing_back (listing_numbers v) ≡ v
unfolding listing_back refusal_by dictionary_by
listing_back_law (Err (Layer r)) = refusal_back (λ x. Err (Layer x)) _ r
listing_back_law (Err (NoLength k)) = refl
listing_back_law (Err NoRoom) = refl
listing_back_law (Ok a) = refl

pub listing_injective : (v u : Result Accepted Refusal) → listing_numbers v ≡ listing_numbers u → v ≡ u
listing_injective = by_back listing_numbers listing_back listing_back_law

pub list_pinned : (d o words : List ℕ) (r r' : Result Accepted Refusal) (after after' : List ℕ) → ListPromise d o words r after → ListPromise d o words r' after'
    → (r ≡ r') × (after ≡ after')
list_pinned d o words r r' after after' a b =
    (listing_injective r r' (a.answers ∙ sym b.answers), a.leaves ∙ sym b.leaves)
