-- In `pairs::check_children`, the ranges before k are good, and the first empty child is kept in mind. Assumes nothing.
use Rattle.rules.proofs.Prelude.{ℕ, ◌<◌}
use Rattle.source.specs.Names.{GoodRange}
use Rattle.pairs.proofs.Laws.{Walked}
use Rattle.pairs.proofs.check_children.Given as goal

abbrev pub invariant-loop-k : goal.invariant-loop-k
invariant-loop-k l = record { ranges : (j : ℕ) → j < l.k → GoodRange l.bytes l.words j; empties : Walked l.words l.k l.empty }
