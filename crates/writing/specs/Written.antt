-- What is written of steps: the bytes of the names, and three words a step (document 02, i). Assumes nothing.
use Rattle.std.specs.Prelude.{List, [], ◌∷◌, ◌++◌, ℕ, ◌+◌, ◌*◌, ◌/◌, ◌%◌, ◌≤◌, length}
use Rattle.width.specs.Limits.{u32_max}
use Rattle.steps.specs.Path.{Step, Parsed}
use Rattle.steps.specs.Path.Step.{named, indexed}
use Rattle.steps.specs.Path.Parsed.{refused, steps}

-- WHAT IS WRITTEN

-- of a step: the bytes of its name
abbrev pub text_of : Step → List ℕ
text_of (named t) = t
text_of (indexed n) = []

unfoldable pub weight : Step → ℕ
weight x = length (text_of x)

-- its three words, where the names before it end at `from`
abbrev pub row_of : (from : ℕ) → Step → List ℕ
row_of from (named t) = 0 ∷ from ∷ (from + length t) ∷ []
row_of from (indexed n) = 1 ∷ n % 4294967296 ∷ n / 4294967296 ∷ []

unfoldable pub names_of : List Step → List ℕ
names_of [] = []
names_of (x ∷ xs) = text_of x ++ names_of xs

unfoldable pub words_of : (from : ℕ) → List Step → List ℕ
words_of from [] = []
words_of from (x ∷ xs) = row_of from x ++ words_of (from + weight x) xs

-- the names' total
unfoldable pub total : List Step → ℕ
total [] = 0
total (x ∷ xs) = weight x + total xs

-- THERE IS ROOM for them: three words a step, the bytes of the names, and their total is within the u32 range
pub record Fits (names words : List ℕ) (xs : List Step) : Type 0 where
  pub rows : 3 * length xs ≤ length words
  pub bytes : total xs ≤ length names
  pub range : total xs ≤ u32_max

-- WHAT IS ANSWERED: a refusal, or how many steps and the total
pub data Sizes : Type 0 where
  bad : ℕ → Sizes
  of : (count total : ℕ) → Sizes

abbrev pub sizes : Parsed → Sizes
sizes (refused code) = bad code
sizes (steps xs) = of (length xs) (total xs)
