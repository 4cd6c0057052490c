-- The object layer: its bytes, its checks in their order, its answers (document 01, "Object bytes" and "Answers"; VariantEncoding.md, "Value
-- Data for Object"). d is the dictionary's bytes, o the object's; a byte that is not there reads as 0. Assumes nothing.
use Rattle.std.specs.Prelude.{cond, List, [], ◌∷◌, ℕ, ◌+◌, ◌-◌, ◌*◌, ◌/◌, ◌%◌, eqb, length, drop, get_or}
use Rattle.width.specs.Width.{le}
use Rattle.names.specs.Order.{below}
use Rattle.rules.specs.Rules.{Answer, Rule, Found, accept, first, each, ◌or_else◌, ◌otherwise◌}
use Rattle.rules.specs.Rules.Rule.{◌⇒◌at◌}
use Rattle.rules.specs.Rules.Test.{◌<?◌, ◌≤?◌, ◌≠?◌, isn't, ◌and◌}
use Rattle.width.specs.Limits.{u32_max}
use Rattle.dictionary.specs.Limits.{limit}
use Rattle.dictionary.specs.Dictionary as dictionary

-- OBJECT BYTES

-- Byte 0: low two bits are the basic type
unfoldable pub basic_type : List ℕ → ℕ
basic_type o = get_or o 0 0 % 4

-- bits 2-3 plus 1 are the offset width
unfoldable pub offset_width : List ℕ → ℕ
offset_width o = get_or o 0 0 / 4 % 4 + 1

-- bits 4-5 plus 1 are the id width
unfoldable pub id_width : List ℕ → ℕ
id_width o = get_or o 0 0 / 16 % 4 + 1

-- bit 6 says that the field count takes four bytes instead of one
unfoldable pub count_width : List ℕ → ℕ
count_width o = cond (eqb (get_or o 0 0 / 64 % 2) 1) 4 1

-- Then the count n
unfoldable pub count : List ℕ → ℕ
count o = le (count_width o) (drop 1 o)

-- n field ids
unfoldable pub ids_start : List ℕ → ℕ
ids_start o = 1 + count_width o

unfoldable pub id : List ℕ → ℕ → ℕ
id o k = le (id_width o) (drop (ids_start o + id_width o * k) o)

-- n + 1 offsets
unfoldable pub offsets_start : List ℕ → ℕ
offsets_start o = ids_start o + id_width o * count o

unfoldable pub offset : List ℕ → ℕ → ℕ
offset o k = le (offset_width o) (drop (offsets_start o + offset_width o * k) o)

-- the value region
unfoldable pub start : List ℕ → ℕ
start o = offsets_start o + offset_width o * (count o + 1)

-- The trimmed end is the region's start plus the last offset
unfoldable pub end : List ℕ → ℕ
end o = start o + offset o (count o)

-- a field's name is the dictionary's at its id
unfoldable pub field_name : List ℕ → List ℕ → ℕ → List ℕ
field_name d o k = dictionary.name d (id o k)

-- THE CHECKS, IN ORDER, where `most` is the longest that is read

abbrev pub head_rules_within : ℕ → List ℕ → List Rule
head_rules_within most o =
    (most <? length o ⇒ 20 at 0)
    ∷ (length o <? 1 ⇒ 21 at 0)
    ∷ (basic_type o ≠? 2 ⇒ 22 at 0)
    ∷ (length o <? ids_start o ⇒ 23 at 0)
    ∷ (u32_max <? offsets_start o ⇒ 24 at 0)
    ∷ (u32_max <? start o ⇒ 24 at 0)
    ∷ (length o <? start o ⇒ 23 at 0)
    ∷ (u32_max <? end o ⇒ 24 at 0)
    ∷ (length o <? end o ⇒ 23 at 0)
    ∷ []

-- of field k: its id is at or above the entry count; or its name is not above the one before
unfoldable pub name_rules : List ℕ → List ℕ → ℕ → List Rule
name_rules d o k =
    (dictionary.count d ≤? id o k ⇒ 25 at k)
    ∷ (0 <? k and isn't (below (field_name d o (k - 1)) (field_name d o k)) ⇒ 26 at k)
    ∷ []

-- the same by ids, which is right over a sorted dictionary of n entries (ByIds.antt of `fields`)
unfoldable pub id_rules : ℕ → List ℕ → ℕ → List Rule
id_rules n o k =
    (n ≤? id o k ⇒ 25 at k)
    ∷ (0 <? k and id o k ≤? id o (k - 1) ⇒ 26 at k)
    ∷ []

-- of field k: its offset is above the region's length, which is the last offset; or at it, so that the child has no bytes (document 02, e)
unfoldable pub offset_rules : List ℕ → ℕ → List Rule
offset_rules o k =
    (offset o (count o) <? offset o k ⇒ 27 at k)
    ∷ (offset o (count o) ≤? offset o k ⇒ 28 at k)
    ∷ []

unfoldable pub checks_within : ℕ → List ℕ → List ℕ → Found
checks_within most d o =
    dictionary.checks_within most d
    or_else first (head_rules_within most o)
    or_else first (each (name_rules d o) (count o))
    or_else first (each (offset_rules o) (count o))

-- ANSWERS

-- an accepted layer gives its field count, region start and trimmed end
abbrev pub layer : List ℕ → Answer
layer o = accept (count o ∷ start o ∷ end o ∷ [])

unfoldable pub verdict_within : ℕ → List ℕ → List ℕ → Answer
verdict_within most d o = checks_within most d o otherwise layer o

-- AT THE LIMIT, the dictionary's: what every call answers by
abbrev pub head_rules : List ℕ → List Rule
head_rules o = head_rules_within limit o

abbrev pub checks : List ℕ → List ℕ → Found
checks d o = checks_within limit d o

abbrev pub verdict : List ℕ → List ℕ → Answer
verdict d o = verdict_within limit d o
