-- What each call promises, and the words of its answer. Assumes nothing.
use Rattle.std.specs.Prelude.{List, ℕ}
use Rattle.layer.specs.Object as object
use Rattle.lookup.specs.ByName as by_name
use Rattle.strip.specs.Shapes.{words_of, lookup_shape, layer_shape}
use Rattle.strip.specs.Promises.{Left}

abbrev pub layer_words : List ℕ → List ℕ → List ℕ
layer_words d o = words_of layer_shape (object.verdict d o)

abbrev pub LayerPromise : List ℕ → List ℕ → List ℕ → ℕ → List ℕ → Type 0
LayerPromise d o strip = Left strip (layer_words d o)

abbrev pub lookup_words : List ℕ → List ℕ → List ℕ → List ℕ
lookup_words d o q = words_of lookup_shape (by_name.lookup d o q)

abbrev pub LookupPromise : List ℕ → List ℕ → List ℕ → List ℕ → ℕ → List ℕ → Type 0
LookupPromise d o q strip = Left strip (lookup_words d o q)
