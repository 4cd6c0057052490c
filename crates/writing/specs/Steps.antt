-- What the functions of the crate answer each other, in the words of Path.antt and Written.antt. Assumes nothing.
use Rattle.std.specs.Prelude.{◌≡◌, List, [], ℕ, ◌+◌, ◌≤◌, length, drop, get_or, Result, Ok, Err, IfOk}
use Rattle.std.proofs.lemmas.List.Edits.{sets}
use Rattle.width.specs.Limits.{u32_max}
use Rattle.steps.specs.Path.{Step, Parsed, next, parse}
use Rattle.writing.specs.Written.{Sizes, Fits, weight, text_of, row_of, sizes}
use Rattle.steps.specs.Path.Next.{wrong, takes}
use Rattle.steps.specs.Path.Parsed.{refused, steps}
use Rattle.steps.specs.Answers.{refusal_number}
use Rattle.writing.specs.Written.Sizes.{bad, of}
use Rattle.steps.specs.declared.Refusal.{Refusal}
use Rattle.writing.specs.declared.Extent.{Extent}
use Rattle.writing.specs.declared.Parsed as measured

-- what the step that the byte at `at` starts takes: `len` bytes of the names, and `more` of the path after that byte
pub record TakesOf (s : List ℕ) (at len more : ℕ) : Type 0 where
  pub step : Step
  pub is : next (get_or s at 0) (drop (at + 1) s) ≡ takes step more
  pub weighs : weight step ≡ len
  pub fewer : len ≤ more + 1
  pub inside : at + 1 + more ≤ length s

abbrev pub ExtentOf : List ℕ → ℕ → Result Extent Refusal → Type 0
ExtentOf s at (Err r) = next (get_or s at 0) (drop (at + 1) s) ≡ wrong (refusal_number r)
ExtentOf s at (Ok x) = TakesOf s at x.len x.more

abbrev pub sizes_of : Result measured.Parsed Refusal → Sizes
sizes_of (Err r) = bad (refusal_number r)
sizes_of (Ok m) = of m.count m.total

abbrev pub MeasureOf : List ℕ → Result measured.Parsed Refusal → Type 0
MeasureOf s r = (sizes_of r ≡ sizes (parse 0 s)) × IfOk r (λ m. (m.count ≤ length s) × (m.total ≤ length s))

-- THE WRITER

-- a step stands at `at`, and there is room for it
pub record Due (s : List ℕ) (at used row : ℕ) (names words : List ℕ) : Type 0 where
  pub step : Step
  pub more : ℕ
  pub is : next (get_or s at 0) (drop (at + 1) s) ≡ takes step more
  pub names_room : used + weight step ≤ length names
  pub words_room : row + 3 ≤ length words
  pub fits : used + weight step ≤ u32_max

-- it was written
pub record WroteOf (s : List ℕ) (at used row : ℕ) (names words names' words' : List ℕ) (w : Extent) : Type 0 where
  pub step : Step
  pub is : next (get_or s at 0) (drop (at + 1) s) ≡ takes step w.more
  pub weighs : weight step ≡ w.len
  pub names_are : names' ≡ sets names used (text_of step)
  pub words_are : words' ≡ sets words row (row_of used step)
  pub inside : at + 1 + w.more ≤ length s

-- the steps of a path, and room for them all
pub record Room (s names words : List ℕ) : Type 0 where
  pub all : List Step
  pub is : parse 0 s ≡ steps all
  pub room : Fits names words all

abbrev pub steps_in : Parsed → List Step
steps_in (refused code) = []
steps_in (steps xs) = xs
