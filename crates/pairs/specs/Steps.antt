-- What the steps of the checks tell each other. Assumes nothing.
use Rattle.std.specs.Prelude.{◌≡◌, List, ℕ, ◌≤◌, ◌<◌, Result, Ok, Err, ⊤}
use Rattle.rules.specs.Rules.Found.{pass, stop}
use Rattle.source.specs.Pairs.{pairs, from, to}
use Rattle.source.specs.Names.{GoodRange}
use Rattle.pairs.specs.declared.NoSuchEntry.{NoSuchEntry}
use Rattle.pairs.specs.declared.Flaw.{Flaw}
use Rattle.pairs.specs.declared.Flaw.TheVariants as flaw
use Rattle.pairs.specs.declared.ChildRefusal.{ChildRefusal}
use Rattle.pairs.specs.declared.ChildRefusal.TheVariants as refusal
use Rattle.pairs.specs.Checks.{id_checks, range_checks, empty_checks, largest}

-- 25, or the largest id
abbrev pub IdsOf : List ℕ → List ℕ → Result ℕ NoSuchEntry → Type 0
IdsOf d words (Err e) = id_checks d words ≡ stop 25 e.number
IdsOf d words (Ok m) = (id_checks d words ≡ pass) × (m ≡ largest words (pairs words))

-- one child
abbrev pub ChildOf : List ℕ → List ℕ → ℕ → Result ⊤ Flaw → Type 0
ChildOf bytes words k (Err flaw.Outside) = GoodRange bytes words k → ⊥
ChildOf bytes words k (Err flaw.Empty) = GoodRange bytes words k × (to words k ≤ from words k)
ChildOf bytes words k (Ok _) = GoodRange bytes words k × (from words k < to words k)

-- 45, then 28
abbrev pub ChildrenOf : List ℕ → List ℕ → Result ⊤ ChildRefusal → Type 0
ChildrenOf bytes words (Err (refusal.Outside k)) = range_checks bytes words ≡ stop 45 k
ChildrenOf bytes words (Err (refusal.Empty k)) = (range_checks bytes words ≡ pass) × (empty_checks words ≡ stop 28 k)
ChildrenOf bytes words (Ok _) = (range_checks bytes words ≡ pass) × (empty_checks words ≡ pass)
