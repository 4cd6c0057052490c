-- Lookup of many names at one check: d is the dictionary's bytes, o the object's; the names stand one after another in a run of bytes, and
-- `ends` says where each ends. Assumes nothing.
use Rattle.std.specs.Prelude.{List, [], ◌∷◌, ◌++◌, ℕ, ◌*◌, length, drop}
use Rattle.rules.specs.Rules.{Answer, Found, first, each, ◌or_else◌, ◌otherwise◌, unless_refused}
use Rattle.rules.specs.Rules.Rule.{◌⇒◌at◌}
use Rattle.rules.specs.Rules.Test.{◌<?◌}
use Rattle.run.specs.Run as run
use Rattle.dictionary.specs.Limits.{limit}
use Rattle.layer.specs.Object.{checks_within, layer}
use Rattle.lookup.specs.ByName.{lookup_within}
use Rattle.rows.specs.Rows.{row_of}

-- a name's row, in the order asked
unfoldable pub row_within : ℕ → (d o names ends : List ℕ) → ℕ → List ℕ
row_within most d o names ends k = row_of (lookup_within most d o (run.name names ends k))

-- 45, the ends, first; then the dictionary's and the layer's refusals as ever; 41, words below five a name, last
unfoldable pub many_checks_within : ℕ → (d o names ends words : List ℕ) → Found
many_checks_within most d o names ends words =
    run.checks names ends or_else checks_within most d o or_else first ((length words <? 5 * length ends ⇒ 41 at 0) ∷ [])

-- the answer is the accepted layer's
unfoldable pub lookups_within : ℕ → (d o names ends words : List ℕ) → Answer
lookups_within most d o names ends words = many_checks_within most d o names ends words otherwise layer o

-- words after the rows stay; any refusal leaves all
unfoldable pub rows_after_within : ℕ → (d o names ends words : List ℕ) → List ℕ
rows_after_within most d o names ends words =
    unless_refused (many_checks_within most d o names ends words) (each (row_within most d o names ends) (length ends) ++ drop (5 * length ends) words) words

-- AT THE LIMIT
abbrev pub row : (d o names ends : List ℕ) → ℕ → List ℕ
row d o names ends = row_within limit d o names ends

abbrev pub many_checks : (d o names ends words : List ℕ) → Found
many_checks d o names ends words = many_checks_within limit d o names ends words

abbrev pub lookups : (d o names ends words : List ℕ) → Answer
lookups d o names ends words = lookups_within limit d o names ends words

abbrev pub rows_after : (d o names ends words : List ℕ) → List ℕ
rows_after d o names ends words = rows_after_within limit d o names ends words
