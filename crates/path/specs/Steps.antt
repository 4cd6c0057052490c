-- What the functions of the walk answer each other. Assumes nothing.
use Rattle.std.specs.Prelude.{◌≡◌, List, ℕ, Option, Result}
use Rattle.parsing.specs.ReadBack.{read_back, Laid}
use Rattle.lookup.specs.declared.Found.{Found}
use Rattle.strides.specs.declared.Refusal.{Refusal}
use Rattle.strides.specs.Answers.{stride_numbers}
use Rattle.path.specs.Path.{walk, whole, asked}

-- so many steps stand in the two buffers
abbrev pub Filled : (names words : List ℕ) (count : ℕ) → Type 0
Filled names words count = Laid names words 0 (read_back names words 0 count)

abbrev pub WalkOf : (d v names words : List ℕ) (count : ℕ) → Result (Option Found) Refusal → Type 0
WalkOf d v names words count r = stride_numbers r ≡ walk d v 0 (whole v) (read_back names words 0 count)

abbrev pub AskedOf : (d v names words : List ℕ) (count : ℕ) → Result (Option Found) Refusal → Type 0
AskedOf d v names words count r = stride_numbers r ≡ asked d v (read_back names words 0 count)
