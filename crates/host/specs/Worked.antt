-- Document 01's starred worked cases, then those of document 02's requests and of many names at one check, in one table: what is asked, and what the document says.
-- proofs/Worked.antt proves that the definitions say the same. Assumes nothing.
use Rattle.std.specs.Prelude.{false, List, [], ◌∷◌, ◌++◌, ℕ, zero, suc, negsuc, length, replicate, Result, Ok}
use Rattle.std.specs.Float.{fin}
use Rattle.rules.specs.Rules.{Answer, refuse, accept}
use Rattle.rules.specs.Rules.Answer.{gives}
use Rattle.dictionary.specs.Dictionary as dictionary
use Rattle.layer.specs.Object as object
use Rattle.lookup.specs.ByName as by_name
use Rattle.many.specs.Many as many
use Rattle.listing.specs.Words.{listed as list_of, words_after}
use Rattle.value.specs.declared.Value.{Value}
use Rattle.value.specs.declared.Value.TheVariants.{I8, F32, F32Nan, Bytes}
use Rattle.value.specs.declared.Kind.TheVariants.{Primitive, ShortString}
use Rattle.value.specs.declared.Refusal.{Refusal}
use Rattle.value.specs.Reading.{reading}
use Rattle.value.specs.Answers.{value_numbers}
use Rattle.nodes.specs.Tree as trees
use Rattle.lichenhusk.specs.Strip.{lookup_words, strip_after}

-- what can be asked
pub data Asked : Type 0 where
  verdict : (d : List ℕ) → Asked
  layer : (d o : List ℕ) → Asked
  lookup : (d o q : List ℕ) → Asked
  listing : (d o words : List ℕ) → Asked
  listed : (d o words : List ℕ) → Asked
  lookups : (d o names ends words : List ℕ) → Asked
  rows : (d o names ends words : List ℕ) → Asked
  strip : (d o q bytes : List ℕ) → Asked
  value : (s : List ℕ) → Asked
  told : (s : List ℕ) → Asked
  tree : (d v : List ℕ) → Asked

-- what is told: an answer, what is left in the lent words or bytes, or a value
pub data Told : Type 0 where
  answers : Answer → Told
  leaves : List ℕ → Told
  reads : Result Value Refusal → Told

-- what the definitions tell
abbrev pub tell : Asked → Told
tell (verdict d) = answers (dictionary.verdict d)
tell (layer d o) = answers (object.verdict d o)
tell (lookup d o q) = answers (by_name.lookup d o q)
tell (listing d o words) = leaves (words_after d o words)
tell (listed d o words) = answers (list_of d o words)
tell (lookups d o names ends words) = answers (many.lookups d o names ends words)
tell (rows d o names ends words) = leaves (many.rows_after d o names ends words)
tell (strip d o q bytes) = leaves (strip_after bytes (lookup_words d o q))
tell (value s) = reads (reading s)
tell (told s) = answers (value_numbers (reading s))
tell (tree d v) = answers (trees.verdict d v)

-- D holds "flow" and "roll"
abbrev pub D : List ℕ
D = 0x11 ∷ 0x02 ∷ 0x00 ∷ 0x04 ∷ 0x08 ∷ 0x66 ∷ 0x6C ∷ 0x6F ∷ 0x77 ∷ 0x72 ∷ 0x6F ∷ 0x6C ∷ 0x6C ∷ []

abbrev pub P : List ℕ
P = 0x02 ∷ 0x02 ∷ 0x00 ∷ 0x01 ∷ 0x01 ∷ 0x00 ∷ 0x03 ∷ 0x04 ∷ 0x0C ∷ 0xFB ∷ []

-- "roll" alone, whose id is 1
abbrev pub alone : List ℕ
alone = 0x02 ∷ 0x01 ∷ 0x01 ∷ 0x00 ∷ 0x01 ∷ 0x0C ∷ []

-- "flow" is `0C FB`, a byte of no child follows, and "roll" is `04`
abbrev pub gap : List ℕ
gap = 0x02 ∷ 0x02 ∷ 0x00 ∷ 0x01 ∷ 0x00 ∷ 0x03 ∷ 0x04 ∷ 0x0C ∷ 0xFB ∷ 0xFF ∷ 0x04 ∷ []

-- "roll" is of primitive type 21, which there is not
abbrev pub unknown : List ℕ
unknown = 0x02 ∷ 0x02 ∷ 0x00 ∷ 0x01 ∷ 0x00 ∷ 0x02 ∷ 0x03 ∷ 0x0C ∷ 0xFB ∷ 0x54 ∷ []

-- a float of one half
abbrev pub half : List ℕ
half = 0x38 ∷ 0x00 ∷ 0x00 ∷ 0x00 ∷ 0x3F ∷ []

-- a leaf inside so many lists, each of that one element
abbrev pub inside : ℕ → List ℕ
inside zero = 0x04 ∷ []
inside (suc n) = 0x03 ∷ 0x01 ∷ 0x00 ∷ length (inside n) ∷ inside n

abbrev pub flow : List ℕ
flow = 0x66 ∷ 0x6C ∷ 0x6F ∷ 0x77 ∷ []

abbrev pub rol : List ℕ
rol = 0x72 ∷ 0x6F ∷ 0x6C ∷ []

abbrev pub roll : List ℕ
roll = 0x72 ∷ 0x6F ∷ 0x6C ∷ 0x6C ∷ []

-- "flow", "rol" and "roll" in a run, with two bytes after them
abbrev pub run : List ℕ
run = flow ++ rol ++ roll ++ 0x2E ∷ 0x2E ∷ []

-- THE TABLE, with the ids and the strip of request c) and the 28 of request e); then request b)'s row, one for request c), where field and id
-- differ, those of many names: their rows, a word that stays, an end that falls, one that passes the run, and a word too few; and those of
-- request e): its second case, 28 of field 0 before 27 of field 1, and 27 of field 0 before 28 of field 1; and those of request f): a byte
-- between two children that is in no span, and a child of type 21, said before the room that is short; and those of request g): minus five and
-- its words, a float and its bits, those of two NaNs, two texts, and the refusals; and those of request h): P, no bytes, and each of its refusals,
-- outermost and inside, the 25 of an object in an object, a child of type 21 in a layer that is accepted, and 32 lists and 33
abbrev pub starred : List (Asked × Told)
starred =
    (verdict (0x01 ∷ 0x00 ∷ 0x00 ∷ []), answers (accept (0 ∷ 3 ∷ [])))
    ∷ (verdict (0xC1 ∷ 0xFD ∷ 0xFF ∷ 0xFF ∷ 0x3F ∷ []), answers (refuse 13 0))
    ∷ (verdict (0xC1 ∷ 0xFE ∷ 0xFF ∷ 0xFF ∷ 0x3F ∷ []), answers (refuse 14 0))
    ∷ (verdict (0x01 ∷ 0x01 ∷ 0x00 ∷ 0x01 ∷ 0xFF ∷ []), answers (refuse 16 0))
    ∷ (verdict (0x01 ∷ 0x02 ∷ 0x00 ∷ 0x01 ∷ 0x02 ∷ 0xC3 ∷ 0xA9 ∷ []), answers (refuse 17 0))
    ∷ (verdict (0x11 ∷ 0x02 ∷ 0x00 ∷ 0x01 ∷ 0x02 ∷ 0x61 ∷ 0x61 ∷ []), answers (refuse 18 1))
    ∷ (verdict (0x01 ∷ 0x02 ∷ 0x00 ∷ 0x01 ∷ 0x02 ∷ 0x61 ∷ 0x61 ∷ []), answers (accept (2 ∷ 7 ∷ [])))
    ∷ (lookup D P flow, answers (accept (0 ∷ 0 ∷ 8 ∷ 10 ∷ [])))
    ∷ (lookup D P roll, answers (accept (1 ∷ 1 ∷ 7 ∷ 10 ∷ [])))
    ∷ (lookup D P rol, answers by_name.absent)
    ∷ (listing D P (replicate 6 0), leaves (0 ∷ 8 ∷ 2 ∷ 1 ∷ 7 ∷ 1 ∷ []))
    ∷ (
      strip D P roll (replicate 24 0xEE),
      leaves (0 ∷ 0 ∷ 0 ∷ 0 ∷ 1 ∷ 0 ∷ 0 ∷ 0 ∷ 1 ∷ 0 ∷ 0 ∷ 0 ∷ 7 ∷ 0 ∷ 0 ∷ 0 ∷ 0x0A ∷ 0 ∷ 0 ∷ 0 ∷ 0 ∷ 0 ∷ 0 ∷ 0 ∷ []),
    )
    ∷ (layer D (0x02 ∷ 0x01 ∷ 0x00 ∷ 0x00 ∷ 0x00 ∷ []), answers (refuse 28 0))
    ∷ (lookup D (0x02 ∷ 0x01 ∷ 0x00 ∷ 0x00 ∷ 0x00 ∷ []) flow, answers (refuse 28 0))
    ∷ (layer D (0x02 ∷ 0x01 ∷ 0x02 ∷ 0x00 ∷ 0x00 ∷ []), answers (refuse 25 0))
    ∷ (layer D (0x02 ∷ 0x02 ∷ 0x01 ∷ 0x00 ∷ 0x00 ∷ 0x00 ∷ 0x00 ∷ []), answers (refuse 26 1))
    ∷ (layer D (0x02 ∷ 0x01 ∷ 0x00 ∷ 0x02 ∷ 0x01 ∷ 0x00 ∷ []), answers (refuse 27 0))
    ∷ (verdict (0x01 ∷ 0x01 ∷ 0x00 ∷ 0x01 ∷ 0xC3 ∷ []), answers (refuse 19 0))
    ∷ (lookup D alone roll, answers (accept (0 ∷ 1 ∷ 5 ∷ 6 ∷ [])))
    ∷ (rows D P run (4 ∷ 7 ∷ 11 ∷ []) (replicate 16 9), leaves (0 ∷ 0 ∷ 0 ∷ 8 ∷ 10 ∷ 1 ∷ 0 ∷ 0 ∷ 0 ∷ 0 ∷ 0 ∷ 1 ∷ 1 ∷ 7 ∷ 10 ∷ 9 ∷ []))
    ∷ (lookups D P run (4 ∷ 7 ∷ 11 ∷ []) (replicate 16 9), answers (accept (2 ∷ 7 ∷ 10 ∷ [])))
    ∷ (lookups D P run (4 ∷ 3 ∷ 11 ∷ []) (replicate 15 9), answers (refuse 45 1))
    ∷ (lookups [] P run (4 ∷ 7 ∷ 14 ∷ []) [], answers (refuse 45 2))
    ∷ (lookups [] P run (4 ∷ 7 ∷ 11 ∷ []) [], answers (refuse 11 0))
    ∷ (lookups D P run (4 ∷ 7 ∷ 11 ∷ []) (replicate 14 9), answers (refuse 41 0))
    ∷ (layer D (0x02 ∷ 0x01 ∷ 0x00 ∷ 0x01 ∷ 0x01 ∷ 0x00 ∷ []), answers (refuse 28 0))
    ∷ (layer D (0x02 ∷ 0x02 ∷ 0x00 ∷ 0x01 ∷ 0x01 ∷ 0x02 ∷ 0x01 ∷ 0x00 ∷ []), answers (refuse 28 0))
    ∷ (layer D (0x02 ∷ 0x02 ∷ 0x00 ∷ 0x01 ∷ 0x02 ∷ 0x01 ∷ 0x01 ∷ 0x00 ∷ []), answers (refuse 27 0))
    ∷ (listing D gap (replicate 7 9), leaves (0 ∷ 7 ∷ 2 ∷ 1 ∷ 10 ∷ 1 ∷ 9 ∷ []))
    ∷ (listed D unknown (replicate 5 9), answers (refuse 43 1))
    ∷ (listing D unknown (replicate 6 9), leaves (replicate 6 9))
    ∷ (value (0x0C ∷ 0xFB ∷ []), reads (Ok (I8 (negsuc 4))))
    ∷ (told (0x0C ∷ 0xFB ∷ []), answers (accept (3 ∷ 4294967291 ∷ 4294967295 ∷ [])))
    ∷ (value half, reads (Ok (F32 (fin false 1 (negsuc 0)))))
    ∷ (told half, answers (accept (14 ∷ 0x3F000000 ∷ 0 ∷ [])))
    ∷ (value (0x38 ∷ 0x01 ∷ 0x00 ∷ 0xC0 ∷ 0xFF ∷ []), reads (Ok (F32Nan 0xFFC00001)))
    ∷ (value (0x38 ∷ 0x01 ∷ 0x00 ∷ 0x80 ∷ 0x7F ∷ []), reads (Ok (F32Nan 0x7F800001)))
    ∷ (value (0x0D ∷ 0x61 ∷ 0x62 ∷ 0x63 ∷ []), reads (Ok (Bytes ShortString 1 4)))
    ∷ (value (0x40 ∷ 0x02 ∷ 0x00 ∷ 0x00 ∷ 0x00 ∷ 0x61 ∷ 0x62 ∷ 0x63 ∷ []), reads (Ok (Bytes (Primitive 16) 5 7)))
    ∷ (told [], answers (refuse 50 0))
    ∷ (told (0x0C ∷ []), answers (refuse 50 0))
    ∷ (told (0x54 ∷ []), answers (refuse 51 0))
    ∷ (tree D P, answers (accept (0 ∷ 10 ∷ [])))
    ∷ (tree D [], answers (gives 50 (0 ∷ []) 0))
    ∷ (tree D (0x54 ∷ []), answers (gives 51 (0 ∷ []) 0))
    ∷ (tree D (0x05 ∷ 0xFF ∷ []), answers (gives 54 (0 ∷ []) 0))
    ∷ (tree D (0x03 ∷ []), answers (gives 60 (0 ∷ []) 0))
    ∷ (tree D (0x13 ∷ 0xFF ∷ 0xFF ∷ 0xFF ∷ 0xFF ∷ []), answers (gives 61 (0 ∷ []) 0))
    ∷ (tree D (0x03 ∷ 0x02 ∷ 0x00 ∷ 0x02 ∷ 0x01 ∷ 0x00 ∷ 0x00 ∷ []), answers (gives 62 (0 ∷ []) 1))
    ∷ (tree D (0x03 ∷ 0x01 ∷ 0x00 ∷ 0x00 ∷ []), answers (gives 50 (4 ∷ []) 0))
    ∷ (tree D (0x03 ∷ 0x01 ∷ 0x00 ∷ 0x02 ∷ 0x05 ∷ 0xFF ∷ []), answers (gives 54 (4 ∷ []) 0))
    ∷ (tree D (0x02 ∷ 0x01 ∷ 0x00 ∷ 0x00 ∷ 0x05 ∷ 0x03 ∷ 0x01 ∷ 0x00 ∷ 0x01 ∷ 0x54 ∷ []), answers (gives 51 (9 ∷ []) 0))
    ∷ (tree D (0x02 ∷ 0x01 ∷ 0x01 ∷ 0x00 ∷ 0x06 ∷ 0x02 ∷ 0x01 ∷ 0x02 ∷ 0x00 ∷ 0x01 ∷ 0x04 ∷ []), answers (gives 25 (5 ∷ []) 0))
    ∷ (layer D unknown, answers (accept (2 ∷ 7 ∷ 10 ∷ [])))
    ∷ (tree D unknown, answers (gives 51 (9 ∷ []) 0))
    ∷ (tree D (inside 32), answers (accept (0 ∷ 129 ∷ [])))
    ∷ (tree D (inside 33), answers (gives 52 (128 ∷ []) 0))
    ∷ []
