-- Looking for a name among others, by their numbers (document 01, "Answers": found, or absent). Assumes nothing.
use Rattle.std.specs.Prelude.{Bool, cond, List, ℕ, zero, suc, ◌<◌}
use Rattle.std.specs.Ordering.{is_eq}
use Rattle.std.specs.declared.cmp.Ordering.{Ordering}
use Rattle.names.specs.Order.{Before, compare_of}

-- whether two names are the same
abbrev pub is_equal : Ordering → Bool
is_equal = is_eq

unfoldable pub same : List ℕ → List ℕ → Bool
same s t = is_equal (compare_of s t)

pub data Sought : Type 0 where
  nowhere : Sought
  here : ℕ → Sought

-- which of the names of 0, 1 and so on up to n is the query: one after another, from the last
unfoldable pub seek : (ℕ → List ℕ) → List ℕ → ℕ → Sought
seek name query zero = nowhere
seek name query (suc n) = cond (same (name n) query) (here n) (seek name query n)

-- the names up to n are in order, each above all before it
abbrev pub Rising : (ℕ → List ℕ) → ℕ → Type 0
Rising name n = (i j : ℕ) → i < j → j < n → Before (name i) (name j)
