-- What the answer to one index says, in the words of document 02. proofs/Means.antt shows that `element` of Element.antt says the same.
-- Assumes nothing.
use Rattle.std.specs.Prelude.{◌≡◌, List, ℕ, ◌+◌, ◌≤◌, ◌<◌, ◌%◌, length, get_or}
use Rattle.dictionary.specs.Limits.{limit}
use Rattle.layout.specs.Layout.{count, child_start}
use Rattle.list.specs.Meaning as list
use Rattle.elements.specs.Element.{widths}

-- a list within the limit that its own rules accept
pub record IsList (v : List ℕ) : Type 0 where
  pub not_long : length v ≤ limit
  pub not_empty : 1 ≤ length v
  pub is_list : get_or v 0 0 % 4 ≡ 3
  pub layer : list.ListLayer (widths v) v

-- found: n is one of its elements, from a to e
pub record Found (v : List ℕ) (n a e : ℕ) : Type 0 where
  pub accepted : IsList v
  pub is_element : n < count (widths v) v
  pub starts : a ≡ child_start (widths v) v n
  pub ends : e ≡ child_start (widths v) v (n + 1)

-- absent: it has no more than n elements
pub record Absent (v : List ℕ) (n : ℕ) : Type 0 where
  pub accepted : IsList v
  pub past : count (widths v) v ≤ n

-- WHEN EACH REFUSAL IS DUE
pub data Refusal (v : List ℕ) : ℕ → ℕ → Type 0 where
  too_long : limit < length v → Refusal v 20 0
  empty : length v ≤ limit → length v < 1 → Refusal v 21 0
  no_list : length v ≤ limit → 1 ≤ length v → (get_or v 0 0 % 4 ≡ 3 → ⊥) → Refusal v 22 0
  layer : {c p : ℕ} → length v ≤ limit → 1 ≤ length v → get_or v 0 0 % 4 ≡ 3 → list.Refusal (widths v) v c p → Refusal v c p
