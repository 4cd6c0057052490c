-- The worked cases of request i) in one table: what is asked, and what document 02 says. proofs/WorkedPaths.antt proves that the definitions say
-- the same. (They stand beside the other table, not in it, so that neither is too long for one proof.) Assumes nothing.
use Rattle.std.specs.Prelude.{List, [], ◌∷◌, ◌++◌, ℕ, replicate}
use Rattle.rules.specs.Rules.{refuse, accept}
use Rattle.lookup.specs.ByName.{absent}
use Rattle.parsing.specs.Parsing.{answer, names_after, words_after}
use Rattle.path.specs.Path.{by_path}
use Rattle.host.specs.Worked.{Told, D, P, flow, roll}
use Rattle.host.specs.Worked.Told.{answers, leaves}

-- what can be asked: the answer, and what is left in the lent bytes and words
pub data Asked : Type 0 where
  path : (d v path names words : List ℕ) → Asked
  names_left : (path names words : List ℕ) → Asked
  steps_left : (path names words : List ℕ) → Asked

abbrev pub tell : Asked → Told
tell (path d v p n w) = answers (by_path d v p n w)
tell (names_left p n w) = leaves (names_after (answer p n w) n)
tell (steps_left p n w) = leaves (words_after (answer p n w) w)

-- "flow" is an object in which "roll" is `0C 07`; a list of `0C 01` and `0C 02`, and one of `0C 01` and no bytes
abbrev pub nested : List ℕ
nested = 0x02 ∷ 0x01 ∷ 0x00 ∷ 0x00 ∷ 0x07 ∷ 0x02 ∷ 0x01 ∷ 0x01 ∷ 0x00 ∷ 0x02 ∷ 0x0C ∷ 0x07 ∷ []

abbrev pub two_of : List ℕ
two_of = 0x03 ∷ 0x02 ∷ 0x00 ∷ 0x02 ∷ 0x04 ∷ 0x0C ∷ 0x01 ∷ 0x0C ∷ 0x02 ∷ []

abbrev pub one_and_none : List ℕ
one_and_none = 0x03 ∷ 0x02 ∷ 0x00 ∷ 0x02 ∷ 0x02 ∷ 0x0C ∷ 0x01 ∷ []

-- `flow.roll`; and an index in brackets
abbrev pub flow_roll : List ℕ
flow_roll = flow ++ 0x2E ∷ roll

abbrev pub index : ℕ → List ℕ
index digit = 0x5B ∷ digit ∷ 0x5D ∷ []

-- room for eight bytes of names, and for three steps
abbrev pub bytes : List ℕ
bytes = replicate 8 7

abbrev pub triples : List ℕ
triples = replicate 9 9

-- THE TABLE: found by one step and by two, with the buffers after it, absent and past the list, another kind at each step, no bytes to step into,
-- an inner layer's refusal, the empty path, 70 to 76, and 76 before a dictionary that is none
abbrev pub walked : List (Asked × Told)
walked =
    (path D P roll bytes triples, answers (accept (1 ∷ 1 ∷ 7 ∷ 10 ∷ [])))
    ∷ (path D nested flow bytes triples, answers (accept (0 ∷ 0 ∷ 5 ∷ 12 ∷ [])))
    ∷ (path D nested flow_roll bytes triples, answers (accept (0 ∷ 1 ∷ 10 ∷ 12 ∷ [])))
    ∷ (names_left flow_roll (0xEE ∷ bytes) triples, leaves (flow ++ roll ++ 7 ∷ []))
    ∷ (steps_left flow_roll bytes triples, leaves (0 ∷ 0 ∷ 4 ∷ 0 ∷ 4 ∷ 8 ∷ 9 ∷ 9 ∷ 9 ∷ []))
    ∷ (path D two_of (index 0x31) bytes triples, answers (accept (1 ∷ 0 ∷ 7 ∷ 9 ∷ [])))
    ∷ (path D nested roll bytes triples, answers absent)
    ∷ (path D two_of (index 0x32) bytes triples, answers absent)
    ∷ (path D P (index 0x30) bytes triples, answers (refuse 53 0))
    ∷ (path D two_of flow bytes triples, answers (refuse 53 0))
    ∷ (path D P (flow ++ index 0x30) bytes triples, answers (refuse 53 1))
    ∷ (path D one_and_none (index 0x31) bytes triples, answers (accept (1 ∷ 0 ∷ 7 ∷ 7 ∷ [])))
    ∷ (path D one_and_none (index 0x31 ++ index 0x30) bytes triples, answers (refuse 21 0))
    ∷ (path D (0x02 ∷ 0x01 ∷ 0x01 ∷ 0x00 ∷ 0x06 ∷ 0x02 ∷ 0x01 ∷ 0x02 ∷ 0x00 ∷ 0x01 ∷ 0x04 ∷ []) (roll ++ 0x2E ∷ flow) bytes triples, answers (refuse 25 0))
    ∷ (path D [] [] [] [], answers (accept (0 ∷ 0 ∷ 0 ∷ 0 ∷ [])))
    ∷ (path D P (0xFF ∷ []) bytes triples, answers (refuse 70 0))
    ∷ (path D P (0x2E ∷ []) bytes triples, answers (refuse 71 0))
    ∷ (path D P (flow ++ 0x2E ∷ []) bytes triples, answers (refuse 72 0))
    ∷ (path D P (flow ++ 0x5D ∷ []) bytes triples, answers (refuse 73 0))
    ∷ (path D P (0x5B ∷ []) bytes triples, answers (refuse 74 0))
    ∷ (path D P (0x5B ∷ 0x5D ∷ []) bytes triples, answers (refuse 75 0))
    ∷ (path D P flow (replicate 3 7) triples, answers (refuse 76 0))
    ∷ (path [] P flow bytes (replicate 2 9), answers (refuse 76 0))
    ∷ (path [] P flow bytes triples, answers (refuse 11 0))
    ∷ []
