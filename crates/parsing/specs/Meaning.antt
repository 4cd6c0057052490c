-- What document 02, i), asks of a path and of the two buffers, in words: when it is accepted, and when each of the refusals 70 to 76 is due.
-- proofs/Means.antt shows that `answer` of Parsing.antt says the same. Assumes nothing.
use Rattle.std.specs.Prelude.{List, ◌∷◌, ℕ, ◌*◌, ◌<◌, length}
use Rattle.width.specs.Limits.{u32_max}
use Rattle.chars.specs.Rfc3629.{Text}
use Rattle.steps.specs.Path.{Step}
use Rattle.steps.specs.Meaning.{Spells, Refused}
use Rattle.writing.specs.Written.{total, Fits}

pub data LeadsWithDot : List ℕ → Type 0 where
  dot : {s : List ℕ} → LeadsWithDot (46 ∷ s)

-- NO ROOM for the steps: too few words, or bytes, or a total above the u32 range
pub data Lacks (names words : List ℕ) (xs : List Step) : Type 0 where
  few_words : length words < 3 * length xs → Lacks names words xs
  few_bytes : length names < total xs → Lacks names words xs
  past_range : u32_max < total xs → Lacks names words xs

-- AN ACCEPTED PATH, and its steps
pub record Accepted (path names words : List ℕ) (xs : List Step) : Type 0 where
  pub is_text : Text path
  pub no_dot : LeadsWithDot path → ⊥
  pub spelt : Spells path xs
  pub room : Fits names words xs

-- WHEN EACH REFUSAL IS DUE: 70, then 71, then the first met of 72 to 75, and last 76
pub data Refusal (path names words : List ℕ) : ℕ → Type 0 where
  not_text : (Text path → ⊥) → Refusal path names words 70
  leading_dot_law : Text path → LeadsWithDot path → Refusal path names words 71
  met : {c : ℕ} → Text path → (LeadsWithDot path → ⊥) → Refused path c → Refusal path names words c
  no_room : {xs : List Step} → Text path → (LeadsWithDot path → ⊥) → Spells path xs → Lacks names words xs → Refusal path names words 76
