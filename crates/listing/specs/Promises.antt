-- What the public call promises, once for its `ensures` and for proofs/Pinned.antt. Assumes nothing.
use Rattle.std.specs.Prelude.{◌≡◌, List, ℕ, Result}
use Rattle.object.specs.declared.Accepted.{Accepted}
use Rattle.listing.specs.declared.Refusal.{Refusal}
use Rattle.listing.specs.Words.{listed, words_after}
use Rattle.listing.specs.Answers.{listing_numbers}

-- the answer, and the words after it
pub record ListPromise (d o words : List ℕ) (r : Result Accepted Refusal) (after : List ℕ) : Type 0 where
  pub answers : listing_numbers r ≡ listed d o words
  pub leaves : after ≡ words_after d o words
