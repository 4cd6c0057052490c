-- A raise of the limit (document 02, request d): the lookup of many names answers and leaves the same under two limits that dictionary and
-- object are within. The call's own promise is that under `limit`. Assumes nothing.
use Rattle.rules.proofs.Prelude.{◌≡◌, sym, ◌∙◌, List, ℕ, length, each_same}
use Rattle.object.proofs.Raised.{Within, checks_alike}
use Rattle.lookup.proofs.Raised.{lookup_alike}
use Rattle.std.specs.Prelude.{Result}
use Rattle.object.specs.declared.Accepted.{Accepted}
use Rattle.many.specs.declared.Refusal.{Refusal}
use Rattle.many.specs.Many.{row_within, many_checks_within, lookups_within, rows_after_within}
use Rattle.many.specs.Answers.{lookups_numbers}
use Rattle.many.proofs.Pinned.{lookups_injective}

-- TWO LIMITS, and a dictionary and an object within both
module _ (a b : ℕ) (d o : List ℕ) (in-a : Within a d o) (in_b : Within b d o) where
  module _ (names ends words : List ℕ) where
    many_checks_alike : many_checks_within a d o names ends words ≡ many_checks_within b d o names ends words
    unfolding many_checks_within
    many_checks_alike = rw (checks_alike a b d o in-a in_b)

    pub lookups_alike : lookups_within a d o names ends words ≡ lookups_within b d o names ends words
    unfolding lookups_within
    lookups_alike = rw many_checks_alike

    row_alike : (k : ℕ) → row_within a d o names ends k ≡ row_within b d o names ends k
    unfolding row_within
    row_alike k = rw (lookup_alike a b d o in-a in_b _)

    pub rows_alike : rows_after_within a d o names ends words ≡ rows_after_within b d o names ends words
    unfolding rows_after_within
    rows_alike = rw (many_checks_alike, each_same (row_within a d o names ends) (row_within b d o names ends) (length ends) (λ k _. row_alike k))

  -- the answer of the call, with the words after it (which rows_alike has)
  pub get_all_alike : (names ends words : List ℕ) (r r' : Result Accepted Refusal) → lookups_numbers r ≡ lookups_within a d o names ends words
      → lookups_numbers r' ≡ lookups_within b d o names ends words → r ≡ r'
  get_all_alike names ends words r r' x y = lookups_injective r r' (x ∙ lookups_alike names ends words ∙ sym y)
