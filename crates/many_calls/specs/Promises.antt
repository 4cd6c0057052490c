-- What each call promises, and the words of its answer. Assumes nothing.
use Rattle.std.specs.Prelude.{List, ℕ}
use Rattle.many.specs.Many as many
use Rattle.many.specs.Many.{rows_after}
use Rattle.listing.specs.Words as listing
use Rattle.listing.specs.Words.{words_after}
use Rattle.strip.specs.Shapes.{words_of, layer_shape}
use Rattle.strip.specs.Promises.{Filled}

abbrev pub list_words : List ℕ → List ℕ → List ℕ → List ℕ
list_words d o words = words_of layer_shape (listing.listed d o words)

abbrev pub ListPromise : (d o words strip : List ℕ) → ℕ → List ℕ → List ℕ → Type 0
ListPromise d o words strip = Filled strip (list_words d o words) words (words_after d o words)

abbrev pub all_words : (d o names ends words : List ℕ) → List ℕ
all_words d o names ends words = words_of layer_shape (many.lookups d o names ends words)

abbrev pub AllPromise : (d o names ends words strip : List ℕ) → ℕ → List ℕ → List ℕ → Type 0
AllPromise d o names ends words strip = Filled strip (all_words d o names ends words) words (rows_after d o names ends words)
