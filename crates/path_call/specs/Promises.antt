-- What the call promises, and the words of its answer. Assumes nothing.
use Rattle.std.specs.Prelude.{◌≡◌, List, ℕ}
use Rattle.parsing.specs.Parsing.{answer, names_after, words_after as steps_after}
use Rattle.path.specs.Path.{by_path}
use Rattle.strip.specs.Shapes.{words_of, lookup_shape}
use Rattle.strip.specs.Strip.{filled_after}
use Rattle.strip.specs.Promises.{Left}

abbrev pub path_words : (d v path names words : List ℕ) → List ℕ
path_words d v path names words = words_of lookup_shape (by_path d v path names words)

-- a path: the names and the words of its steps, in two lent buffers
pub record PathPromise (d v path names words strip : List ℕ) (code : ℕ) (after names' words' : List ℕ) : Type 0 where
  pub strip_left : Left strip (path_words d v path names words) code after
  pub names_left : names' ≡ filled_after strip names (names_after (answer path names words) names)
  pub words_left : words' ≡ filled_after strip words (steps_after (answer path names words) words)
