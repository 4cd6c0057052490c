-- `marked::levels_from` meets its contract. Assumes nothing.
use Rattle.rules.proofs.Prelude.{arith}
use Rattle.nodes.specs.Tree.{levels}
use Rattle.marked.proofs.levels_from.Goals as goal

pub returns : goal.returns
unfolding levels
returns c = omega arith
