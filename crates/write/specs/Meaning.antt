-- What document 02, j), says of what is written, in its words: the set of names, the one list of it, and when each refusal is due.
-- proofs/ shows that Writing.antt says the same. Assumes nothing.
use Rattle.std.specs.Prelude.{◌≡◌, List, ℕ, ◌≤◌, ◌<◌, length}
use Rattle.dictionary.specs.Limits.{limit}
use Rattle.run.specs.Run.{name}
use Rattle.given.specs.Meaning.{GoodNames, BadName}
use Rattle.sets.specs.Sets.{In, Increasing}
use Rattle.fill.specs.Bytes.{size}
use Rattle.fill.specs.Steps.{list_of}

-- THE SET: x is a name that is given
pub record Named (run ends x : List ℕ) : Type 0 where
  pub number : ℕ
  pub is_name : number < length ends
  pub is : name run ends number ≡ x

-- THE LIST: names once each, increasing, and exactly that set (proofs/TheList.antt: there is one such list, and `list_of` is it)
pub record TheList (run ends : List ℕ) (names : List (List ℕ)) : Type 0 where
  pub increasing : Increasing names
  pub given : (x : List ℕ) → In x names → Named run ends x
  pub all : (x : List ℕ) → Named run ends x → In x names

-- WHEN EACH REFUSAL IS DUE, in their order
pub data Refusal (run ends room : List ℕ) : ℕ → ℕ → Type 0 where
  bad_name : {k : ℕ} → BadName run ends k → Refusal run ends room 45 k
  too_long : GoodNames run ends → limit < size (list_of run ends) → Refusal run ends room 10 0
  no_room : GoodNames run ends → size (list_of run ends) ≤ limit → length room < size (list_of run ends) → Refusal run ends room 46 0

-- AND WHAT AN ANSWER SAYS: so many names were written, in so many bytes
pub record Accepted (run ends room : List ℕ) (count bytes : ℕ) : Type 0 where
  pub names : GoodNames run ends
  pub within : size (list_of run ends) ≤ limit
  pub fits : size (list_of run ends) ≤ length room
  pub counts : count ≡ length (list_of run ends)
  pub ends_at : bytes ≡ size (list_of run ends)
