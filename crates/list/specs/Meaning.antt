-- What document 02, h), asks of a list layer, in its words and its order: the rules that hold of an accepted one, and when each refusal is due.
-- proofs/Means.antt shows that the checks of List.antt say the same. Assumes nothing.
use Rattle.std.specs.Prelude.{List, ℕ, ◌+◌, ◌≤◌, ◌<◌, length}
use Rattle.width.specs.Limits.{u32_max}
use Rattle.layout.specs.declared.Widths.{Widths}
use Rattle.layout.specs.Layout.{count, offsets_start, offset, start, end}
use Rattle.lengths.specs.Meaning.{Counted}

-- WHAT THE CHECKS ASK, EACH WITH THOSE BEFORE IT: the count and the offsets are there (`Counted`); then the region
pub record Headed (w : Widths) (s : List ℕ) : Type 0 where
  pub counted : Counted w s
  pub end_fits : end w s ≤ u32_max
  pub end_inside : end w s ≤ length s

-- element k runs to the next offset, within the region
pub record InOrder (w : Widths) (s : List ℕ) (k : ℕ) : Type 0 where
  pub rises : offset w s k ≤ offset w s (k + 1)
  pub inside : offset w s k ≤ offset w s (count w s)

-- THE RULES OF AN ACCEPTED LAYER
pub record ListLayer (w : Widths) (s : List ℕ) : Type 0 where
  pub headed : Headed w s
  pub elements : (k : ℕ) → k < count w s → InOrder w s k

-- WHEN EACH REFUSAL IS DUE
pub data Refusal (w : Widths) (s : List ℕ) : ℕ → ℕ → Type 0 where
  count_cut : length s < 1 + w.count → Refusal w s 60 0
  offsets_sum : 1 + w.count ≤ length s → u32_max < offsets_start w s → Refusal w s 61 0
  start_sum : 1 + w.count ≤ length s → offsets_start w s ≤ u32_max → u32_max < start w s → Refusal w s 61 0
  offsets_cut : 1 + w.count ≤ length s → offsets_start w s ≤ u32_max → start w s ≤ u32_max → length s < start w s → Refusal w s 60 0
  end_sum : Counted w s → u32_max < end w s → Refusal w s 61 0
  end_past : Counted w s → end w s ≤ u32_max → length s < end w s → Refusal w s 60 0
  not_rising : {k : ℕ} → Headed w s → k < count w s → ((j : ℕ) → j < k → InOrder w s j) → offset w s (k + 1) < offset w s k → Refusal w s 62 k
  past_region : {k : ℕ} → Headed w s → k < count w s → ((j : ℕ) → j < k → InOrder w s j) → offset w s k ≤ offset w s (k + 1)
      → offset w s (count w s) < offset w s k → Refusal w s 62 k
