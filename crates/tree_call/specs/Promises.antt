-- What the call promises, and the words of its answer. Assumes nothing.
use Rattle.std.specs.Prelude.{List, ℕ}
use Rattle.marks.specs.Marks.{cleared}
use Rattle.nodes.specs.Tree as tree
use Rattle.strip.specs.Shapes.{words_of, tree_shape}
use Rattle.strip.specs.Promises.{Filled}

abbrev pub tree_words : List ℕ → List ℕ → List ℕ
tree_words d v = words_of tree_shape (tree.verdict d v)

-- a tree: the marks that were lent are all 0 afterwards, under a refusal too
abbrev pub TreePromise : (d v marks strip : List ℕ) → ℕ → List ℕ → List ℕ → Type 0
TreePromise d v marks strip = Filled strip (tree_words d v) marks (cleared marks)
