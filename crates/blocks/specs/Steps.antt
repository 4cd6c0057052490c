-- What the steps of the check promise each other of a byte and the three before it. Assumes nothing.
use Rattle.std.specs.Prelude.{◌≡◌, Bool, false, not, ◌&&◌, ◌||◌, List, ◌∷◌, ℕ, ◌≤◌, ◌<◌, eqb, leb, ltb, get_or}
use Rattle.std.specs.Bool.{beq}

-- the byte b continues a character exactly if one of the three before it, a and then c and d, asks for that; it is no byte that no text
-- has; and after a first byte with bounds of its own, it keeps them: this tells whether one of these fails
unfoldable pub wrong_of : ℕ → ℕ → ℕ → ℕ → Bool
wrong_of d c a b =
    ((not (beq (leb 0x80 b && leb b 0xBF) ((leb 0xC0 a || leb 0xE0 c) || leb 0xF0 d)) || ((eqb b 0xC0 || eqb b 0xC1) || leb 0xF5 b))
    || ((eqb a 0xE0 && ltb b 0xA0) || (eqb a 0xF0 && ltb b 0x90)))
    || ((eqb a 0xED && ltb 0x9F b) || (eqb a 0xF4 && ltb 0x8F b))

-- so it is with byte k, where nothing stands before the first
abbrev pub RightAt : List ℕ → ℕ → Type 0
RightAt s k = wrong_of (get_or (0 ∷ 0 ∷ 0 ∷ s) k 0) (get_or (0 ∷ 0 ∷ s) k 0) (get_or (0 ∷ s) k 0) (get_or s k 0) ≡ false

-- and with each byte from i up to j
abbrev pub Rights : List ℕ → ℕ → ℕ → Type 0
Rights s i j = (k : ℕ) → i ≤ k → k < j → RightAt s k
