-- The lines of a text: a newline ends a line and is none of its bytes; what follows the last newline is a line where it has bytes. Assumes
-- nothing.
use Rattle.std.specs.Prelude.{Bool, cond, List, [], ◌∷◌, ℕ, ◌+◌, eqb, length}

abbrev pub newline : ℕ → Bool
newline b = eqb b 0x0A

-- a byte more at the front of the first line
abbrev pub with : ℕ → List (List ℕ) → List (List ℕ)
with b [] = (b ∷ []) ∷ []
with b (line ∷ lines) = (b ∷ line) ∷ lines

unfoldable pub lines_of : List ℕ → List (List ℕ)
lines_of [] = []
lines_of (b ∷ s) = cond (newline b) ([] ∷ lines_of s) (with b (lines_of s))

-- where each of them ends where they stand one after another, the first at o
unfoldable pub ends_of : ℕ → List (List ℕ) → List ℕ
ends_of o [] = []
ends_of o (x ∷ xs) = (o + length x) ∷ ends_of (o + length x) xs
