-- What the public call promises, once for its `ensures` and for proofs/Pinned.antt: the answer, and both buffers after it. A path's own
-- refusal leaves both; any other answer leaves them filled with the steps. Assumes nothing.
use Rattle.std.specs.Prelude.{◌≡◌, List, ℕ, Option, Result}
use Rattle.parsing.specs.Parsing.{answer, names_after, words_after}
use Rattle.lookup.specs.declared.Found.{Found}
use Rattle.path.specs.declared.Refusal.{Refusal}
use Rattle.path.specs.Path.{by_path}
use Rattle.path.specs.Answers.{asked_numbers}

pub record GetPromise (d v path names words : List ℕ) (r : Result (Option Found) Refusal) (names' words' : List ℕ) : Type 0 where
  pub says : asked_numbers r ≡ by_path d v path names words
  pub names_left : names' ≡ names_after (answer path names words) names
  pub words_left : words' ≡ words_after (answer path names words) words
