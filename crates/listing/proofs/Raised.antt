-- A raise of the limit (document 02, request d): the listing answers and leaves the same under two limits that dictionary and object are
-- within. The call's own promise is the one under `limit`. Assumes nothing.
use Rattle.rules.proofs.Prelude.{◌≡◌, sym, ◌∙◌, List, ℕ}
use Rattle.object.proofs.Raised.{Within, checks_alike}
use Rattle.std.specs.Prelude.{Result}
use Rattle.object.specs.declared.Accepted.{Accepted}
use Rattle.listing.specs.declared.Refusal.{Refusal}
use Rattle.listing.specs.Words.{list_checks_within, listed_within, words_after_within}
use Rattle.listing.specs.Answers.{listing_numbers}
use Rattle.listing.proofs.Pinned.{listing_injective}

-- TWO LIMITS, and a dictionary and an object within both
module _ (a b : ℕ) (d o words : List ℕ) (in-a : Within a d o) (in_b : Within b d o) where
  list_checks_alike : list_checks_within a d o words ≡ list_checks_within b d o words
  unfolding list_checks_within
  list_checks_alike = rw (checks_alike a b d o in-a in_b)

  pub listed_alike : listed_within a d o words ≡ listed_within b d o words
  unfolding listed_within
  listed_alike = rw list_checks_alike

  pub words_alike : words_after_within a d o words ≡ words_after_within b d o words
  unfolding words_after_within
  words_alike = rw list_checks_alike

  -- the answer of the call (the words after it: words-alike)
  pub list_alike : (r r' : Result Accepted Refusal) → listing_numbers r ≡ listed_within a d o words → listing_numbers r' ≡ listed_within b d o words → r ≡ r'
  list_alike r r' x y = listing_injective r r' (x ∙ listed_alike ∙ sym y)
