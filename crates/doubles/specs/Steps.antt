-- What the steps of the check tell each other. Assumes nothing.
use Rattle.std.specs.Prelude.{◌≡◌, Bool, true, false, List, ℕ, Option, Result, Ok, Err, ⊤}
use Rattle.rules.specs.Rules.Found.{pass, stop}
use Rattle.sets.specs.Sets.{Numbered}
use Rattle.source.specs.declared.Source.{Source}
use Rattle.source.specs.Names.{name_of, count_of}
use Rattle.pick.specs.Pick.{Planned}
use Rattle.doubles.specs.declared.Double.{Double}
use Rattle.doubles.specs.Doubles.{checks}

-- whether an earlier number has the name of k
abbrev pub SeenOf : (ℕ → List ℕ) → ℕ → Bool → Type 0
SeenOf name k true = Numbered name 0 k (name k)
SeenOf name k false = Numbered name 0 k (name k) → ⊥

-- each name once, and what is known of scratch
pub record Single (run words : List ℕ) (kind : Source) (order : List ℕ) (plan : Option ℕ) : Type 0 where
  pub passes : checks (name_of run words kind) (count_of words kind) ≡ pass
  pub planned : Planned run words kind order plan

-- that, or the first double
abbrev pub DoublesOf : List ℕ → List ℕ → Source → List ℕ → Result (Option ℕ) Double → Type 0
DoublesOf run words kind order (Ok plan) = Single run words kind order plan
DoublesOf run words kind order (Err double) = checks (name_of run words kind) (count_of words kind) ≡ stop 26 double.number

-- what a search says: it has no order
abbrev pub SearchedOf : (ℕ → List ℕ) → ℕ → Result ⊤ Double → Type 0
SearchedOf name n (Ok _) = checks name n ≡ pass
SearchedOf name n (Err double) = checks name n ≡ stop 26 double.number
