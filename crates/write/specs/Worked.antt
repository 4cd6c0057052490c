-- Worked cases of request j): names in a run with ends, the room that is lent, what is answered and what is left in the room.
-- proofs/Worked.antt proves that the definitions say the same. Assumes nothing.
use Rattle.std.specs.Prelude.{List, [], ◌∷◌, ◌++◌, ℕ, replicate}
use Rattle.rules.specs.Rules.{Answer, refuse, accept}
use Rattle.write.specs.Writing.{written, room_after}

pub record Case : Type 0 where
  pub run : List ℕ
  pub ends : List ℕ
  pub room : List ℕ

pub record Told : Type 0 where
  pub answer : Answer
  pub left : List ℕ

abbrev pub tell : Case → Told
tell c = record { answer = written c.run c.ends c.room; left = room_after c.run c.ends c.room }

-- n bytes of room
abbrev pub room : ℕ → List ℕ
room n = replicate n 9

-- "roll" and "flow", one after another; and document 01's dictionary D of both
abbrev pub roll_flow : List ℕ
roll_flow = 0x72 ∷ 0x6F ∷ 0x6C ∷ 0x6C ∷ 0x66 ∷ 0x6C ∷ 0x6F ∷ 0x77 ∷ []

abbrev pub D : List ℕ
D = 0x11 ∷ 0x02 ∷ 0x00 ∷ 0x04 ∷ 0x08 ∷ 0x66 ∷ 0x6C ∷ 0x6F ∷ 0x77 ∷ 0x72 ∷ 0x6F ∷ 0x6C ∷ 0x6C ∷ []

abbrev pub twice : List ℕ
twice = 0x61 ∷ 0x61 ∷ []

abbrev case : List ℕ → List ℕ → List ℕ → Case
case run ends lent = record { run = run; ends = ends; room = lent }

abbrev told : Answer → List ℕ → Told
told a l = record { answer = a; left = l }

-- THE TABLE: no names; two in the other order, with a byte of room more; one given twice; bytes after the last end; the empty name and a longer
-- one with the same beginning; 45 for an end that falls, one that passes the run, a name that is cut; the first of two; 46; 45 before it
abbrev pub cases : List (Case × Told)
cases =
    (case [] [] (room 3), told (accept (0 ∷ 3 ∷ [])) (0x11 ∷ 0x00 ∷ 0x00 ∷ []))
    ∷ (case roll_flow (4 ∷ 8 ∷ []) (room 14), told (accept (2 ∷ 13 ∷ [])) (D ++ 9 ∷ []))
    ∷ (case twice (1 ∷ 2 ∷ []) (room 5), told (accept (1 ∷ 5 ∷ [])) (0x11 ∷ 0x01 ∷ 0x00 ∷ 0x01 ∷ 0x61 ∷ []))
    ∷ (case roll_flow (4 ∷ []) (room 14), told (accept (1 ∷ 8 ∷ [])) (0x11 ∷ 0x01 ∷ 0x00 ∷ 0x04 ∷ 0x72 ∷ 0x6F ∷ 0x6C ∷ 0x6C ∷ room 6))
    ∷ (case (0x61 ∷ 0x62 ∷ 0x61 ∷ []) (2 ∷ 2 ∷ 3 ∷ []) (room 9), told (accept (3 ∷ 9 ∷ [])) (0x11 ∷ 0x03 ∷ 0x00 ∷ 0x00 ∷ 0x01 ∷ 0x03 ∷ 0x61 ∷ 0x61 ∷ 0x62 ∷ []))
    ∷ (case twice (2 ∷ 1 ∷ []) (room 9), told (refuse 45 1) (room 9))
    ∷ (case twice (1 ∷ 3 ∷ []) (room 9), told (refuse 45 1) (room 9))
    ∷ (case (0xC3 ∷ 0xA9 ∷ []) (1 ∷ 2 ∷ []) (room 9), told (refuse 45 0) (room 9))
    ∷ (case (0xC3 ∷ 0xA9 ∷ []) (2 ∷ []) (room 6), told (accept (1 ∷ 6 ∷ [])) (0x11 ∷ 0x01 ∷ 0x00 ∷ 0x02 ∷ 0xC3 ∷ 0xA9 ∷ []))
    ∷ (case roll_flow (4 ∷ 8 ∷ []) (room 12), told (refuse 46 0) (room 12))
    ∷ (case twice (3 ∷ []) [], told (refuse 45 0) [])
    ∷ []
