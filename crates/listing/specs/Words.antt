-- The listing of an object's fields (document 01, "Listing", and request f) of document 02): d is the dictionary's bytes, o the object's. Assumes nothing.
use Rattle.std.specs.Prelude.{List, [], ◌∷◌, ◌++◌, ℕ, ◌+◌, ◌*◌, length, drop}
use Rattle.part.specs.Part.{part}
use Rattle.rules.specs.Rules.{Answer, Rule, Found, first, each, ◌or_else◌, ◌otherwise◌, unless_refused}
use Rattle.rules.specs.Rules.Rule.{◌⇒◌at◌}
use Rattle.rules.specs.Rules.Test.{◌<?◌, isn't}
use Rattle.dictionary.specs.Limits.{limit}
use Rattle.lengths.specs.Lengths.{own_length, is_known, bytes_of}
use Rattle.layer.specs.Object.{count, id, offset, start, end, checks_within, layer}

-- Field k's child runs from the region's start plus its offset to the trimmed end
unfoldable pub child : List ℕ → ℕ → List ℕ
child o k = part o (start o + offset o k) (end o)

-- the span is its own length (document 02, f)
unfoldable pub span : List ℕ → ℕ → ℕ
span o k = bytes_of (own_length (child o k))

-- three words a field in field order: id, start, span
unfoldable pub row : List ℕ → ℕ → List ℕ
row o k = id o k ∷ (start o + offset o k) ∷ span o k ∷ []

abbrev pub rows : List ℕ → ℕ → List ℕ
rows o = each (row o)

-- of field k: its child has no own length
unfoldable pub span_rules : List ℕ → ℕ → List Rule
span_rules o k = (isn't (is_known (own_length (child o k))) ⇒ 43 at k) ∷ []

-- 43 comes just before 41, listing room below three words a field, which is checked last; `most` is the longest that is read
unfoldable pub list_checks_within : ℕ → (d o words : List ℕ) → Found
list_checks_within most d o words =
    checks_within most d o
    or_else first (each (span_rules o) (count o))
    or_else first ((length words <? 3 * count o ⇒ 41 at 0) ∷ [])

unfoldable pub listed_within : ℕ → (d o words : List ℕ) → Answer
listed_within most d o words = list_checks_within most d o words otherwise layer o

-- Words after these stay; any refusal leaves all
unfoldable pub words_after_within : ℕ → (d o words : List ℕ) → List ℕ
words_after_within most d o words = unless_refused (list_checks_within most d o words) (rows o (count o) ++ drop (3 * count o) words) words

-- AT THE LIMIT
abbrev pub list_checks : (d o words : List ℕ) → Found
list_checks d o words = list_checks_within limit d o words

abbrev pub listed : (d o words : List ℕ) → Answer
listed d o words = listed_within limit d o words

abbrev pub words_after : (d o words : List ℕ) → List ℕ
words_after d o words = words_after_within limit d o words
