-- What an object and a list have in common (document 01, "Object bytes"; VariantEncoding.md, "Value Data for Object" and "for Array"): after
-- the header byte the count n, n ids or none, n + 1 offsets, and the region of the values. How many bytes each of these has comes from the
-- header byte, by each kind's own bits: `Widths`. A byte that is not there reads as 0. Assumes nothing.
use Rattle.std.specs.Prelude.{List, [], ◌∷◌, ℕ, ◌+◌, ◌*◌, length, drop}
use Rattle.width.specs.Width.{le}
use Rattle.rules.specs.Rules.{Rule}
use Rattle.rules.specs.Rules.Rule.{◌⇒◌at◌}
use Rattle.rules.specs.Rules.Test.{◌<?◌}
use Rattle.width.specs.Limits.{u32_max}
use Rattle.layout.specs.declared.Widths.{Widths}

-- the count n
unfoldable pub count : Widths → List ℕ → ℕ
count w s = le w.count (drop 1 s)

-- after the n ids
unfoldable pub offsets_start : Widths → List ℕ → ℕ
offsets_start w s = 1 + w.count + w.id * count w s

-- n + 1 offsets
unfoldable pub offset : Widths → List ℕ → ℕ → ℕ
offset w s k = le w.offset (drop (offsets_start w s + w.offset * k) s)

-- the value region
unfoldable pub start : Widths → List ℕ → ℕ
start w s = offsets_start w s + w.offset * (count w s + 1)

-- The trimmed end is the region's start plus the last offset
unfoldable pub end : Widths → List ℕ → ℕ
end w s = start w s + offset w s (count w s)

-- Child k starts at its offset in the region
abbrev pub child_start : Widths → List ℕ → ℕ → ℕ
child_start w s k = start w s + offset w s k

-- THE CHECKS, IN ORDER, with a number each for a header that is cut, for a sum above the u32 range, and for a region longer than the bytes
abbrev pub rules : (cut sum longer : ℕ) → Widths → List ℕ → List Rule
rules cut sum longer w s =
    (length s <? 1 + w.count ⇒ cut at 0)
    ∷ (u32_max <? offsets_start w s ⇒ sum at 0)
    ∷ (u32_max <? start w s ⇒ sum at 0)
    ∷ (length s <? start w s ⇒ cut at 0)
    ∷ (u32_max <? end w s ⇒ sum at 0)
    ∷ (length s <? end w s ⇒ longer at 0)
    ∷ []
