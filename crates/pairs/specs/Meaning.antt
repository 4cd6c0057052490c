-- What good pairs are, and when 25, 45 and 28 are due. proofs/Means.antt shows that the checks of Checks.antt say the same. Assumes nothing.
use Rattle.std.specs.Prelude.{◌⊎◌, List, ℕ, ◌≤◌, ◌<◌, length}
use Rattle.dictionary.specs.Dictionary as dictionary
use Rattle.source.specs.Pairs.{pairs, id, from, to}
use Rattle.source.specs.Names.{GoodRange}

-- every child has a byte
abbrev pub SomeBytes : List ℕ → Type 0
SomeBytes words = (k : ℕ) → k < pairs words → from words k < to words k

-- 25 at k: pair k is the first whose id is no entry
pub record NoEntry (d words : List ℕ) (k : ℕ) : Type 0 where
  pub is_pair : k < pairs words
  pub is_first : (j : ℕ) → j < k → id words j < dictionary.count d
  pub beyond : dictionary.count d ≤ id words k

-- 45 at k: pair k is the first whose child falls or passes the bytes
pub record BadRange (bytes words : List ℕ) (k : ℕ) : Type 0 where
  pub is_pair : k < pairs words
  pub is_first : (j : ℕ) → j < k → GoodRange bytes words j
  pub is_bad : (to words k < from words k) ⊎ (length bytes < to words k)

-- 28 at k: pair k is the first whose child has no bytes
pub record EmptyChild (words : List ℕ) (k : ℕ) : Type 0 where
  pub is_pair : k < pairs words
  pub is_first : (j : ℕ) → j < k → from words j < to words j
  pub empty : to words k ≤ from words k
