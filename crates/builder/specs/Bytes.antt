-- An object's bytes from pairs over a dictionary (document 02, k; document 01, "Object bytes"). d is the dictionary's bytes. Assumes nothing.
use Rattle.std.specs.Prelude.{cond, List, [], ◌∷◌, ◌++◌, ℕ, ◌+◌, ◌-◌, ◌*◌, ltb, length}
use Rattle.width.specs.Width.{bytes_of}
use Rattle.put.specs.Numbers.{numbers}
use Rattle.sets.specs.Sets.{collect, total}
use Rattle.source.specs.Pairs.{pairs, id, child}
use Rattle.sort.specs.Steps.{labels}
use Rattle.lay.specs.Items.{numbers_for}
use Rattle.lay.specs.Bytes.{width_of, offsets, joined}
use Rattle.pairs.specs.Checks.{pair_name, largest}

-- THE FIELDS, by increasing name: each the number of its pair
unfoldable pub fields : List ℕ → List ℕ → List ℕ
fields d words = numbers_for (pair_name d words) (pairs words) (collect (pair_name d words) 0 (pairs words))

-- their ids
unfoldable pub ids_of : List ℕ → List ℕ → List ℕ
ids_of words [] = []
ids_of words (k ∷ ks) = id words k ∷ ids_of words ks

-- their children
unfoldable pub children_of : List ℕ → List ℕ → List ℕ → List (List ℕ)
children_of bytes words ks = labels (child bytes words) ks

-- THE BYTES

-- the count takes four bytes only above 255
unfoldable pub count_width : ℕ → ℕ
count_width n = cond (ltb 0xFF n) 4 1

-- Byte 0: the basic type, 2; the offset width less 1 in bits 2-3, the id width less 1 in bits 4-5; bit 6 for four bytes of count; bit 7 is 0
unfoldable pub lead : ℕ → ℕ → ℕ → ℕ
lead wi wo n = 2 + 4 * (wo - 1) + 16 * (wi - 1) + cond (ltb 0xFF n) 64 0

-- where the region starts
unfoldable pub start_for : ℕ → ℕ → ℕ → ℕ
start_for wi wo n = 1 + count_width n + wi * n + wo * (n + 1)

-- the first byte, the count, the ids, the offsets, the children
unfoldable pub layout : ℕ → ℕ → List ℕ → List (List ℕ) → List ℕ
layout wi wo ids children =
    lead wi wo (length ids)
    ∷ (bytes_of (count_width (length ids)) (length ids) ++ (numbers wi ids ++ (numbers wo (offsets 0 children) ++ joined children)))

-- THE OBJECT of the pairs

-- the smallest width of the largest id
unfoldable pub id_width : List ℕ → ℕ
id_width words = width_of (largest words (pairs words))

-- the smallest width of the total length
unfoldable pub offset_width : List (List ℕ) → ℕ
offset_width children = width_of (total children)

unfoldable pub children : List ℕ → List ℕ → List ℕ → List (List ℕ)
children d bytes words = children_of bytes words (fields d words)

unfoldable pub object : List ℕ → List ℕ → List ℕ → List ℕ
object d bytes words = layout (id_width words) (offset_width (children d bytes words)) (ids_of words (fields d words)) (children d bytes words)

unfoldable pub start : List ℕ → List ℕ → List ℕ → ℕ
start d bytes words = start_for (id_width words) (offset_width (children d bytes words)) (pairs words)

unfoldable pub size : List ℕ → List ℕ → List ℕ → ℕ
size d bytes words = length (object d bytes words)
