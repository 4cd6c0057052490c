-- A sorted dictionary's bytes from its names in their order (document 02, j; document 01, "Dictionary bytes"). Assumes nothing.
use Rattle.std.specs.Prelude.{List, [], ◌∷◌, ◌++◌, ℕ, ◌+◌, ◌-◌, ◌*◌, max, length}
use Rattle.width.specs.Width.{bytes_of}
use Rattle.put.specs.Numbers.{numbers}
use Rattle.sets.specs.Sets.{total}
use Rattle.lay.specs.Bytes.{width_of, offsets, joined}

-- the smallest width that holds both the count and the total length
unfoldable pub width_for : List (List ℕ) → ℕ
width_for names = width_of (max (length names) (total names))

-- Byte 0: the version, 1; bit 0x10, sorted; bit 0x20 is 0; the width less 1 in the top two bits
abbrev pub lead : ℕ → ℕ
lead w = 0x11 + 64 * (w - 1)

-- the first byte, the count, the offsets, the names
abbrev pub layout : ℕ → List (List ℕ) → List ℕ
layout w names = lead w ∷ (bytes_of w (length names) ++ (numbers w (offsets 0 names) ++ joined names))

unfoldable pub dictionary : List (List ℕ) → List ℕ
dictionary names = layout (width_for names) names

unfoldable pub size : List (List ℕ) → ℕ
size names = length (dictionary names)
