-- Offsets and items, one after another, and the smallest width of a number. Assumes nothing.
use Rattle.std.specs.Prelude.{cond, List, [], ◌∷◌, ◌++◌, ℕ, ◌+◌, ltb, length}

-- the smallest width that holds a number of 32 bits
unfoldable pub width_of : ℕ → ℕ
width_of n = cond (ltb n 0x100) 1 (cond (ltb n 0x10000) 2 (cond (ltb n 0x1000000) 3 4))

-- where each item starts, from o on, and where the last one ends
unfoldable pub offsets : ℕ → List (List ℕ) → List ℕ
offsets o [] = o ∷ []
offsets o (x ∷ xs) = o ∷ offsets (o + length x) xs

-- the items one after another
unfoldable pub joined : List (List ℕ) → List ℕ
joined [] = []
joined (x ∷ xs) = x ++ joined xs
