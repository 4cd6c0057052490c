-- The dictionary: its bytes, its checks in their order, its answers (document 01, "Dictionary bytes" and "Answers"; VariantEncoding.md,
-- "Metadata encoding"). Every definition is a plain function of the bytes as a list, and reads 0 where a byte is not there. Assumes nothing.
use Rattle.std.specs.Prelude.{Bool, cond, List, [], ◌∷◌, ◌++◌, ℕ, ◌+◌, ◌-◌, ◌*◌, ◌/◌, ◌%◌, eqb, ltb, length, drop, get_or}
use Rattle.width.specs.Width.{le}
use Rattle.part.specs.Part.{part}
use Rattle.chars.specs.Rfc3629.{text_up_to}
use Rattle.utf8.specs.Utf8.{is_cut}
use Rattle.names.specs.Order.{below}
use Rattle.rules.specs.Rules.{Answer, Rule, Test, Found, accept, first, each, ◌or_else◌, ◌otherwise◌}
use Rattle.rules.specs.Rules.Rule.{◌⇒◌at◌}
use Rattle.rules.specs.Rules.Test.{◌<?◌, ◌≤?◌, ◌≠?◌, is, isn't, ◌and◌, ◌or◌}
use Rattle.width.specs.Limits.{u32_max}
use Rattle.dictionary.specs.Limits.{limit}

-- DICTIONARY BYTES

-- Byte 0: low four bits are the version
unfoldable pub version : List ℕ → ℕ
version d = get_or d 0 0 % 16

-- bit 0x10 says sorted
unfoldable pub sorted : List ℕ → Bool
sorted d = eqb (get_or d 0 0 / 16 % 2) 1

-- the top two bits plus 1 are the width
unfoldable pub width : List ℕ → ℕ
width d = get_or d 0 0 / 64 + 1

-- Then the entry count n in w bytes
unfoldable pub count : List ℕ → ℕ
count d = le (width d) (drop 1 d)

-- then n + 1 offsets of w bytes
unfoldable pub offset : List ℕ → ℕ → ℕ
offset d k = le (width d) (drop (1 + width d + width d * k) d)

-- The region starts at V = 1 + w + w(n + 1)
unfoldable pub start : List ℕ → ℕ
start d = 1 + width d + width d * (count d + 1)

-- The trimmed end is V plus the last offset
unfoldable pub end : List ℕ → ℕ
end d = start d + offset d (count d)

unfoldable pub region : List ℕ → List ℕ
region d = part d (start d) (end d)

-- entry k runs from its offset to the next
unfoldable pub name : List ℕ → ℕ → List ℕ
name d k = part (region d) (offset d k) (offset d (k + 1))

-- An offset cuts a character if it lies inside the region on a byte 80-BF
abbrev pub cuts : List ℕ → ℕ → Test
cuts r o = o <? length r and 0x80 ≤? get_or r o 0 and get_or r o 0 ≤? 0xBF

-- THE CHECKS, IN ORDER, where `most` is the longest that is read

abbrev pub head_rules_within : ℕ → List ℕ → List Rule
head_rules_within most d =
    (most <? length d ⇒ 10 at 0)
    ∷ (length d <? 1 ⇒ 11 at 0)
    ∷ (version d ≠? 1 ⇒ 12 at 0)
    ∷ (length d <? 1 + width d ⇒ 13 at 0)
    ∷ (u32_max <? start d ⇒ 14 at 0)
    ∷ (length d <? start d ⇒ 13 at 0)
    ∷ (offset d 0 ≠? 0 ⇒ 15 at 0)
    ∷ (u32_max <? end d ⇒ 14 at 0)
    ∷ (length d <? end d ⇒ 13 at 0)
    ∷ []

abbrev pub region_rules : List ℕ → List Rule
region_rules r =
    (is (is_cut r) ⇒ 19 at text_up_to r)
    ∷ (text_up_to r <? length r ⇒ 16 at text_up_to r)
    ∷ []

-- the offsets of an entry fall, pass the region, or the second cuts a character
abbrev pub outside : List ℕ → ℕ → ℕ → Test
outside r from to = to <? from or length r <? to or cuts r to

-- of entry k, which runs from offset `from` to the next, `to`, in the region r; `prev` is the offset before: they fall, pass the region or cut
-- a character; or the dictionary is sorted, and the entry is not above the one before
abbrev pub entry_rows : Bool → List ℕ → ℕ → ℕ → ℕ → ℕ → List Rule
entry_rows sorts r prev from to k =
    (cuts r from or outside r from to ⇒ 17 at k)
    ∷ (is sorts and 0 <? k and isn't (below (part r prev from) (part r from to)) ⇒ 18 at k)
    ∷ []

unfoldable pub entry_rules : List ℕ → ℕ → List Rule
entry_rules d k = entry_rows (sorted d) (region d) (offset d (k - 1)) (offset d k) (offset d (k + 1)) k

unfoldable pub checks_within : ℕ → List ℕ → Found
checks_within most d = first (head_rules_within most d) or_else first (region_rules (region d)) or_else first (each (entry_rules d) (count d))

-- ANSWERS

-- An accepted dictionary gives its entry count and trimmed end
unfoldable pub verdict_within : ℕ → List ℕ → Answer
verdict_within most d = checks_within most d otherwise accept (count d ∷ end d ∷ [])

-- An entry number gives the start and end of its name, counted from the dictionary's first byte; the dictionary's refusals come before 31
unfoldable pub name_at_within : ℕ → List ℕ → ℕ → Answer
name_at_within most d i =
    checks_within most d or_else first ((count d ≤? i ⇒ 31 at 0) ∷ [])
    otherwise accept ((start d + offset d i) ∷ (start d + offset d (i + 1)) ∷ [])

-- AT THE LIMIT of Limits.antt: what every call answers by
abbrev pub head_rules : List ℕ → List Rule
head_rules d = head_rules_within limit d

abbrev pub checks : List ℕ → Found
checks d = checks_within limit d

abbrev pub verdict : List ℕ → Answer
verdict d = verdict_within limit d

abbrev pub name_at : List ℕ → ℕ → Answer
name_at d i = name_at_within limit d i

-- THE EMPTY DICTIONARY

-- The fixed bytes 01 00 00 go to the first three bytes of room, bytes after stay; with 42 nothing is written
abbrev pub empty_bytes : List ℕ
empty_bytes = 0x01 ∷ 0x00 ∷ 0x00 ∷ []

unfoldable pub emptied : List ℕ → Answer
emptied room = first ((length room <? 3 ⇒ 42 at 0) ∷ []) otherwise accept []

unfoldable pub room_after : List ℕ → List ℕ
room_after room = cond (ltb (length room) 3) room (empty_bytes ++ drop 3 room)
