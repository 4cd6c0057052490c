-- What the functions of one step answer each other. Assumes nothing.
use Rattle.std.specs.Prelude.{◌≡◌, List, ℕ, Option, Result}
use Rattle.steps.specs.Path.{Step}
use Rattle.parsing.specs.ReadBack.{step_at, StandsAt}
use Rattle.strides.specs.Stride.{stride}
use Rattle.strides.specs.Answers.{stride_numbers}
use Rattle.strides.specs.declared.Refusal.{Refusal}
use Rattle.lookup.specs.declared.Found.{Found}

-- the step that three words say, from `row` on, stands there
abbrev pub Stands : (names words : List ℕ) (row : ℕ) → Type 0
Stands names words row = StandsAt names words row (step_at names words row)

abbrev pub StrideOf : (d v : List ℕ) (number : ℕ) → Step → Result (Option Found) Refusal → Type 0
StrideOf d v number x r = stride_numbers r ≡ stride d v number x
