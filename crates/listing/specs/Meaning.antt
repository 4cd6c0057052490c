-- What the listing's answers say, in the words of documents 01 and 02. proofs/Lists.antt shows that the listing of Words.antt says the same.
-- Assumes nothing.
use Rattle.std.specs.Prelude.{List, ℕ, ◌*◌, ◌≤◌, ◌<◌, length, Ok}
use Rattle.lengths.specs.Meaning.{Due}
use Rattle.layer.specs.Object.{count, start, end}
use Rattle.layer.specs.Meaning.{Layer}
use Rattle.listing.specs.Words.{child, span}

-- field k's child has an own length, and its span is that
abbrev pub Spans : List ℕ → ℕ → Type 0
Spans o k = Due (child o k) (Ok (span o k))

-- listed: the layer is accepted, each child has an own length, and there is room for three words a field
pub record Listed (d o words : List ℕ) (n v e : ℕ) : Type 0 where
  pub accepted : Layer d o n v e
  pub spans : (k : ℕ) → k < count o → Spans o k
  pub room : 3 * n ≤ length words

-- 43: the layer is accepted, and field k's child is the first that has no own length
pub record NoLength (d o : List ℕ) (k : ℕ) : Type 0 where
  pub accepted : Layer d o (count o) (start o) (end o)
  pub field : k < count o
  pub before : (j : ℕ) → j < k → Spans o j
  pub none : (n : ℕ) → Due (child o k) (Ok n) → ⊥

-- 41: the layer is accepted, each child has an own length, and there is not
pub record NoRoom (d o words : List ℕ) : Type 0 where
  pub accepted : Layer d o (count o) (start o) (end o)
  pub spans : (k : ℕ) → k < count o → Spans o k
  pub short : length words < 3 * count o
