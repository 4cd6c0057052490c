-- Lent bytes of which each is a mark for a place. Assumes nothing.
use Rattle.std.specs.Prelude.{List, ℕ, length, replicate}

-- as many as were lent, all 0
abbrev pub cleared : List ℕ → List ℕ
cleared marks = replicate (length marks) 0
