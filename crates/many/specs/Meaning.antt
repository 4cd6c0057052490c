-- What the answers of many names say; 45 is the run's own `BadEnd`. proofs/Means.antt shows that Many.antt says the same. Assumes nothing.
use Rattle.std.specs.Prelude.{List, [], ◌∷◌, ℕ, ◌+◌, ◌*◌, ◌≤◌, ◌<◌, length, get_or}
use Rattle.run.specs.Meaning.{GoodEnds}
use Rattle.layer.specs.Object.{count, start, end}
use Rattle.layer.specs.Meaning.{Layer, Refusal}

-- answered: the ends are good, the layer is accepted, and there is room for five words a name
pub record Answered (d o names ends words : List ℕ) (n v e : ℕ) : Type 0 where
  pub good : GoodEnds names ends
  pub accepted : Layer d o n v e
  pub room : 5 * length ends ≤ length words

-- 41: the ends are good, the layer is accepted, and there is not
pub record NoRoom (d o names ends words : List ℕ) : Type 0 where
  pub good : GoodEnds names ends
  pub accepted : Layer d o (count o) (start o) (end o)
  pub short : length words < 5 * length ends

-- c at p: the ends are good, and the dictionary's or the layer's refusal is due
pub record RefusedAfter (d o names ends : List ℕ) (c p : ℕ) : Type 0 where
  pub good : GoodEnds names ends
  pub due : Refusal d o c p

-- the five words of name k
abbrev pub row_at : List ℕ → ℕ → List ℕ
row_at after k = get_or after (5 * k) 0 ∷ get_or after (5 * k + 1) 0 ∷ get_or after (5 * k + 2) 0 ∷ get_or after (5 * k + 3) 0 ∷ get_or after (5 * k + 4) 0 ∷ []

-- the words of a name that is found as field f with id i, its child from a to e; and of one that is absent
abbrev pub found_row : ℕ → ℕ → ℕ → ℕ → List ℕ
found_row f i a e = 0 ∷ f ∷ i ∷ a ∷ e ∷ []

abbrev pub absent_row : List ℕ
absent_row = 1 ∷ 0 ∷ 0 ∷ 0 ∷ 0 ∷ []
