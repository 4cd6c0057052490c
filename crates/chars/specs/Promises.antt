-- What the public calls promise of their answers: each `ensures` cites this, and so does Pinned. Assumes nothing.
use Rattle.std.specs.Prelude.{◌≡◌, Bool, List, ℕ, drop}
use Rattle.chars.specs.Rfc3629.{char, begins}

-- the length of the character that starts at a place; 0 where none does
abbrev pub CharAtPromise : List ℕ → ℕ → ℕ → Type 0
CharAtPromise s at r = r ≡ char (drop at s)

-- whether what stands from there to the end is a proper beginning of one
abbrev pub BeginsAtPromise : List ℕ → ℕ → Bool → Type 0
BeginsAtPromise s at r = r ≡ begins (drop at s)
