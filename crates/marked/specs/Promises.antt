-- What the check promises of a value at any depth, once for every `ensures` and for the proofs that it is pinned. Assumes nothing.
use Rattle.std.specs.Prelude.{◌≡◌, List, ℕ, Result}
use Rattle.nodes.specs.Tree.{verdict_at}
use Rattle.nodes.specs.declared.Fault.{Fault}
use Rattle.marked.specs.Answers.{verdict_numbers}

-- of a value that is met at this depth
abbrev pub CheckAtPromise : (depth : ℕ) → List ℕ → List ℕ → Result ℕ Fault → Type 0
CheckAtPromise depth d v r = verdict_numbers r ≡ verdict_at depth d v
