-- The whole answer to a path, and both buffers after it (document 02, i). Assumes nothing.
use Rattle.std.specs.Prelude.{Bool, false, cond, ◌||◌, List, [], ◌∷◌, ◌++◌, ℕ, ◌*◌, eqb, ltb, length, drop}
use Rattle.width.specs.Limits.{u32_max}
use Rattle.chars.specs.Rfc3629.{text_up_to}
use Rattle.steps.specs.Path.{Parsed, parse}
use Rattle.writing.specs.Written.{names_of, words_of, total}
use Rattle.steps.specs.Path.Parsed.{refused, steps}

-- 70 and 71 come first
unfoldable pub leading_dot : List ℕ → Bool
leading_dot [] = false
leading_dot (b ∷ s) = eqb b 46

unfoldable pub steps_of : List ℕ → Parsed
steps_of s = cond (ltb (text_up_to s) (length s)) (refused 70) (cond (leading_dot s) (refused 71) (parse 0 s))

-- 76 comes last
abbrev pub lacking : (names words count total : ℕ) → Bool
lacking names words count total = ltb words (3 * count) || (ltb names total || ltb u32_max total)

abbrev pub room_for : List ℕ → List ℕ → Parsed → Parsed
room_for names words (refused code) = refused code
room_for names words (steps xs) = cond (lacking (length names) (length words) (length xs) (total xs)) (refused 76) (steps xs)

unfoldable pub answer : (path names words : List ℕ) → Parsed
answer path names words = room_for names words (steps_of path)

-- the rest stays; a refusal leaves both
abbrev pub names_after : Parsed → List ℕ → List ℕ
names_after (refused code) names = names
names_after (steps xs) names = names_of xs ++ drop (total xs) names

abbrev pub words_after : Parsed → List ℕ → List ℕ
words_after (refused code) words = words
words_after (steps xs) words = words_of 0 xs ++ drop (3 * length xs) words
