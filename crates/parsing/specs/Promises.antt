-- What the public call promises, once for its `ensures` and for proofs/Pinned.antt. Assumes nothing.
use Rattle.std.specs.Prelude.{◌≡◌, List, ℕ, Result}
use Rattle.writing.specs.Written.{sizes}
use Rattle.writing.specs.declared.Parsed.{Parsed}
use Rattle.parsing.specs.declared.Refusal.{Refusal}
use Rattle.parsing.specs.Parsing.{answer, names_after, words_after}
use Rattle.parsing.specs.Answers.{parse_numbers}

-- the answer, and both buffers after it
pub record ParsePromise (path names words : List ℕ) (r : Result Parsed Refusal) (names' words' : List ℕ) : Type 0 where
  pub says : parse_numbers r ≡ sizes (answer path names words)
  pub names_left : names' ≡ names_after (answer path names words) names
  pub words_left : words' ≡ words_after (answer path names words) words
