-- What the public call promises, once for its `ensures` and for proofs/Pinned.antt. Assumes nothing.
use Rattle.std.specs.Prelude.{◌≡◌, List, ℕ, Result}
use Rattle.object.specs.declared.Accepted.{Accepted}
use Rattle.many.specs.declared.Refusal.{Refusal}
use Rattle.many.specs.Many.{lookups, rows_after}
use Rattle.many.specs.Answers.{lookups_numbers}

-- many names: the answer, and the words after it
pub record GetAllPromise (d o names ends words : List ℕ) (r : Result Accepted Refusal) (after : List ℕ) : Type 0 where
  pub answers : lookups_numbers r ≡ lookups d o names ends words
  pub leaves : after ≡ rows_after d o names ends words
