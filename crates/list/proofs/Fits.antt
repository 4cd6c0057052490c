-- A list's refusal has a number from 60 to 62, and a place that fits 32 bits. Assumes nothing.
use Rattle.rules.proofs.Prelude.{List, ℕ, ◌≤◌, ◌<◌, arith}
use Rattle.width.specs.Limits.{u32_max}
use Rattle.layout.specs.declared.Widths.{Widths}
use Rattle.layout.specs.Layout.{count, start}
use Rattle.list.specs.Meaning.{Refusal}
use Rattle.list.specs.Meaning.Refusal.{count_cut, offsets_sum, start_sum, offsets_cut, end_sum, end_past, not_rising, past_region}

pub refusal_fits : {s : List ℕ} {w : Widths} {c p : ℕ} → count w s < start w s → Refusal w s c p → (60 ≤ c) × (c < 63) × (p < 4294967296)
unfolding u32_max
refusal_fits few (count_cut a) = omega arith
refusal_fits few (offsets_sum a b) = omega arith
refusal_fits few (start_sum a b e) = omega arith
refusal_fits few (offsets_cut a b e f) = omega arith
refusal_fits few (end_sum a b) = omega arith
refusal_fits few (end_past a b e) = omega arith
refusal_fits few (not_rising h k j o) = omega (arith, h.counted.start_fits)
refusal_fits few (past_region h k j r o) = omega (arith, h.counted.start_fits)
