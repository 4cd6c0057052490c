-- The six words of an answer (document 01, "Strip", and request c) of document 02): code, number, id, start, end, place; unused ones are 0.
-- Assumes nothing.
use Rattle.std.specs.Prelude.{List, [], ◌∷◌, ◌++◌, ℕ, get_or}
use Rattle.width.specs.Width.{bytes_of}
use Rattle.rules.specs.Rules.{Answer}
use Rattle.rules.specs.Rules.Answer.{gives}

-- ONE SHAPE FOR EVERY CALL: which of the answer's values stands in each of the four words between code and place
pub record Shape : Type 0 where
  pub number : List ℕ → ℕ
  pub id : List ℕ → ℕ
  pub start : List ℕ → ℕ
  pub end : List ℕ → ℕ

abbrev pub words_of : Shape → Answer → List ℕ
words_of s (gives code values place) = code ∷ s.number values ∷ s.id values ∷ s.start values ∷ s.end values ∷ place ∷ []

-- value k; and a word that the call has no use for
abbrev pub value : ℕ → List ℕ → ℕ
value k values = get_or values k 0

abbrev pub unused : List ℕ → ℕ
unused values = 0

-- field, id, start, end
abbrev pub lookup_shape : Shape
lookup_shape = record { number = value 0; id = value 1; start = value 2; end = value 3 }

-- field count, region start, trimmed end; of the listing and of many names, too
abbrev pub layer_shape : Shape
layer_shape = record { number = value 0; id = unused; start = value 1; end = value 2 }

-- entry count, trimmed end
abbrev pub dictionary_shape : Shape
dictionary_shape = record { number = value 0; id = unused; start = unused; end = value 1 }

-- start, end of a name
abbrev pub name_shape : Shape
name_shape = record { number = unused; id = unused; start = value 0; end = value 1 }

-- a value's kind, and its bits' lower and higher word or the start and end of its bytes
abbrev pub value_shape : Shape
value_shape = layer_shape

-- of a tree that is accepted 0 and its own length, of one that is refused the start of the value that it is of
abbrev pub tree_shape : Shape
tree_shape = name_shape

-- A REFUSAL, or absence, has no values: four zeros between code and place, whatever was called
abbrev pub refusal_words : (code place : ℕ) → List ℕ
refusal_words code place = code ∷ 0 ∷ 0 ∷ 0 ∷ 0 ∷ place ∷ []

-- THE BYTES: each word is a little-endian u32
unfoldable pub bytes_of_words : List ℕ → List ℕ
bytes_of_words [] = []
bytes_of_words (n ∷ words) = bytes_of 4 n ++ bytes_of_words words

-- the bytes of six words
abbrev pub strip_bytes : ℕ
strip_bytes = 24
