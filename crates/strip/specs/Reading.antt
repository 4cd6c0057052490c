-- The strip's six words as a host reads them. Assumes nothing.
use Rattle.std.specs.Prelude.{List, [], ◌∷◌, ℕ, ◌*◌, drop}
use Rattle.width.specs.Width.{le}

-- word k of a strip, as the host reads it
abbrev pub word : List ℕ → ℕ → ℕ
word strip k = le 4 (drop (4 * k) strip)

abbrev pub words_in : List ℕ → List ℕ
words_in strip = word strip 0 ∷ word strip 1 ∷ word strip 2 ∷ word strip 3 ∷ word strip 4 ∷ word strip 5 ∷ []
