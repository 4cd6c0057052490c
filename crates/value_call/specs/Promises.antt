-- What the call promises, and the words of its answer. Assumes nothing.
use Rattle.std.specs.Prelude.{List, ℕ}
use Rattle.value.specs.Reading.{reading}
use Rattle.value.specs.Answers.{value_numbers}
use Rattle.strip.specs.Shapes.{words_of, value_shape}
use Rattle.strip.specs.Promises.{Left}

abbrev pub value_words : List ℕ → List ℕ
value_words s = words_of value_shape (value_numbers (reading s))

abbrev pub ValuePromise : List ℕ → List ℕ → ℕ → List ℕ → Type 0
ValuePromise s strip = Left strip (value_words s)
