-- The code's six numbers as the list of words, and what their writer promises. Assumes nothing.
use Rattle.std.specs.Prelude.{◌≡◌, List, [], ◌∷◌, ◌++◌, ℕ, drop}
use Rattle.strip.specs.declared.Words.{Words}
use Rattle.strip.specs.Shapes.{bytes_of_words, strip_bytes}

abbrev pub list_of : Words → List ℕ
list_of w = w.code ∷ w.number ∷ w.id ∷ w.start ∷ w.end ∷ w.place ∷ []

-- the code is returned; the words stand in the strip's first bytes, and the bytes after stay
pub record Wrote (w : Words) (strip : List ℕ) (code : ℕ) (after : List ℕ) : Type 0 where
  pub returns : code ≡ w.code
  pub leaves : after ≡ bytes_of_words (list_of w) ++ drop strip_bytes strip
