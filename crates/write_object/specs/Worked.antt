-- Worked cases of request k): a dictionary, lent bytes, pairs over both, the room that is lent, what is answered and what is left in the room.
-- proofs/Worked.antt proves that the definitions say the same. Assumes nothing.
use Rattle.std.specs.Prelude.{List, [], ◌∷◌, ◌++◌, ℕ, ◌+◌, replicate}
use Rattle.rules.specs.Rules.{Answer, refuse, accept}
use Rattle.write_object.specs.Writing.{written, room_after}

pub record Case : Type 0 where
  pub dict : List ℕ
  pub bytes : List ℕ
  pub pairs : List ℕ
  pub room : List ℕ

pub record Told : Type 0 where
  pub answer : Answer
  pub left : List ℕ

abbrev pub tell : Case → Told
tell c =
    record { answer = written c.dict c.bytes c.pairs c.room; left = room_after c.dict c.bytes c.pairs c.room }

-- n bytes of room
abbrev pub room : ℕ → List ℕ
room n = replicate n 9

-- document 01's dictionary D of "flow" and "roll", and its children: `04` of "roll", `0C FB` of "flow"
abbrev pub D : List ℕ
D = 0x11 ∷ 0x02 ∷ 0x00 ∷ 0x04 ∷ 0x08 ∷ 0x66 ∷ 0x6C ∷ 0x6F ∷ 0x77 ∷ 0x72 ∷ 0x6F ∷ 0x6C ∷ 0x6C ∷ []

abbrev pub lent : List ℕ
lent = 0x04 ∷ 0x0C ∷ 0xFB ∷ []

-- and an unsorted one: "b", "a", and "b" again
abbrev unsorted : List ℕ
unsorted = 0x01 ∷ 0x03 ∷ 0x00 ∷ 0x01 ∷ 0x02 ∷ 0x03 ∷ 0x62 ∷ 0x61 ∷ 0x62 ∷ []

-- "roll" before "flow"; and each with the other's child
abbrev pub roll_flow : List ℕ
roll_flow = 1 ∷ 0 ∷ 1 ∷ 0 ∷ 1 ∷ 3 ∷ []

abbrev exchanged : List ℕ
exchanged = 1 ∷ 1 ∷ 3 ∷ 0 ∷ 0 ∷ 1 ∷ []

-- what is written of the first
abbrev pub object : List ℕ
object = 0x02 ∷ 0x02 ∷ 0x00 ∷ 0x01 ∷ 0x00 ∷ 0x02 ∷ 0x03 ∷ 0x0C ∷ 0xFB ∷ 0x04 ∷ []

-- a call with these bytes
abbrev over : List ℕ → List ℕ → List ℕ → Case
over d pairs free = record { dict = d; bytes = lent; pairs = pairs; room = free }

abbrev told : Answer → List ℕ → Told
told a l = record { answer = a; left = l }

-- two fields are written, in so many bytes, with the region from 7 on; a byte of room more stays
abbrev yes : List ℕ → List ℕ → ℕ → List ℕ → Case × Told
yes d pairs size left = (over d pairs (room (size + 1)), told (accept (2 ∷ 7 ∷ size ∷ [])) (left ++ 9 ∷ []))

-- refused, and all room stays
abbrev no : List ℕ → List ℕ → ℕ → ℕ → ℕ → Case × Told
no d pairs free code place = (over d pairs (room free), told (refuse code place) (room free))

-- THE TABLE: no pairs, in room for no byte more; two in the other order; the children exchanged; ranges that overlap; ids that fall where names
-- rise, and a cut last pair; 25; 26 at the later pair, over two ids of one name; 45 for a range that falls, one that passes the bytes, and
-- before 28 of an earlier pair; 28; 25 before 26 of an earlier pair; 46 for a byte of room less; the dictionary's refusal before all
abbrev pub cases : List (Case × Told)
cases =
    (over D [] (room 3), told (accept (0 ∷ 3 ∷ 3 ∷ [])) (0x02 ∷ 0x00 ∷ 0x00 ∷ []))
    ∷ yes D roll_flow 10 object
    ∷ yes D exchanged 10 (0x02 ∷ 0x02 ∷ 0x00 ∷ 0x01 ∷ 0x00 ∷ 0x01 ∷ 0x03 ∷ 0x04 ∷ 0x0C ∷ 0xFB ∷ [])
    ∷ yes D (0 ∷ 0 ∷ 3 ∷ 1 ∷ 0 ∷ 1 ∷ []) 11 (0x02 ∷ 0x02 ∷ 0x00 ∷ 0x01 ∷ 0x00 ∷ 0x03 ∷ 0x04 ∷ 0x04 ∷ 0x0C ∷ 0xFB ∷ 0x04 ∷ [])
    ∷ yes unsorted (0 ∷ 0 ∷ 1 ∷ 1 ∷ 1 ∷ 3 ∷ 2 ∷ 0 ∷ []) 10 (0x02 ∷ 0x02 ∷ 0x01 ∷ 0x00 ∷ 0x00 ∷ 0x02 ∷ 0x03 ∷ 0x0C ∷ 0xFB ∷ 0x04 ∷ [])
    ∷ no D (1 ∷ 0 ∷ 1 ∷ 2 ∷ 1 ∷ 3 ∷ []) 10 25 1
    ∷ no unsorted (2 ∷ 0 ∷ 1 ∷ 1 ∷ 1 ∷ 3 ∷ 0 ∷ 0 ∷ 1 ∷ []) 20 26 2
    ∷ no D (1 ∷ 1 ∷ 0 ∷ 0 ∷ 1 ∷ 3 ∷ []) 10 45 0
    ∷ no D (1 ∷ 0 ∷ 1 ∷ 0 ∷ 1 ∷ 4 ∷ []) 10 45 1
    ∷ no D (1 ∷ 0 ∷ 0 ∷ 0 ∷ 1 ∷ 4 ∷ []) 10 45 1
    ∷ no D (1 ∷ 0 ∷ 1 ∷ 0 ∷ 3 ∷ 3 ∷ []) 10 28 1
    ∷ no D (0 ∷ 0 ∷ 1 ∷ 0 ∷ 1 ∷ 3 ∷ 2 ∷ 0 ∷ 1 ∷ []) 20 25 2
    ∷ no D roll_flow 9 46 0
    ∷ no [] (1 ∷ 1 ∷ 0 ∷ []) 0 11 0
    ∷ []
