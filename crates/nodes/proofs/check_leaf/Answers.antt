-- `nodes::check_leaf` meets its contract: what the leaf comes to is what the value does. Assumes nothing.
use Rattle.nodes.proofs.Steps.{leaf_bad, leaf_good}
use Rattle.nodes.proofs.check_leaf.Goals as goal

pub returns-in-Ok : goal.returns-in-Ok
returns-in-Ok c = let x = c.args in leaf_good x.whole.now x.at.start x.at.end _ c.in-Ok.ensures.0 c.in-Ok.ensures.1

pub returns-in-Err : goal.returns-in-Err
returns-in-Err c = let x = c.args in leaf_bad x.whole.now x.at.start x.at.end c.in-Err.ensures
