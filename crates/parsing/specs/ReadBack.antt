-- How the two buffers are read: a step by its three words. Assumes nothing.
use Rattle.std.specs.Prelude.{◌≡◌, cond, List, [], ◌∷◌, ℕ, zero, suc, ◌+◌, ◌*◌, ◌≤◌, eqb, length, get_or}
use Rattle.part.specs.Part.{part}
use Rattle.steps.specs.Path.{Step}
use Rattle.steps.specs.Path.Step.{named, indexed}

-- 0, start, end of a name; or 1, low and high word of an index
abbrev pub step_by : (names : List ℕ) (kind a b : ℕ) → Step
step_by names kind a b = cond (eqb kind 0) (named (part names a b)) (indexed (a + 4294967296 * b))

abbrev pub step_at : (names words : List ℕ) (row : ℕ) → Step
step_at names words row = step_by names (get_or words row 0) (get_or words (row + 1) 0) (get_or words (row + 2) 0)

-- n steps, three words each, from `row` on
unfoldable pub read_back : (names words : List ℕ) (row n : ℕ) → List Step
read_back names words row zero = []
read_back names words row (suc n) = step_at names words row ∷ read_back names words (row + 3) n

-- the step x stands there; a name lies in the names
pub record StandsAt (names words : List ℕ) (row : ℕ) (x : Step) : Type 0 where
  pub room : row + 3 ≤ length words
  pub is : x ≡ step_at names words row
  pub rises : get_or words row 0 ≡ 0 → get_or words (row + 1) 0 ≤ get_or words (row + 2) 0
  pub inside : get_or words row 0 ≡ 0 → get_or words (row + 2) 0 ≤ length names

-- and steps, one after another
abbrev pub Laid : (names words : List ℕ) (row : ℕ) → List Step → Type 0
Laid names words row [] = Unit {0}
Laid names words row (x ∷ xs) = StandsAt names words row x × Laid names words (row + 3) xs
