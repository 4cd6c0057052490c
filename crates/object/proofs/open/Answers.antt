-- `object::open` meets its contract: the dictionary's checks, then the layer's. Assumes nothing.
use Rattle.rules.proofs.Prelude.{rules}
use Rattle.layout.proofs.Results.{raised}
use Rattle.layer.proofs.Laws.{by_dictionary}
use Rattle.object.proofs.open.Goals as goal

pub returns-in_err-header : goal.returns-in_err-header
returns-in_err-header c = rw (raised _ c.from_residual.ensures.1) (by_dictionary _ _ (search rules))

pub returns-in_err-layer : goal.returns-in_err-layer
returns-in_err-layer c = rw (raised _ c.from_residual-in_err-layer.ensures.1) c.in_err-layer.ensures

pub returns : goal.returns
returns c = let l = c.in_ok-layer.ensures in record { over = c.in_ok-header.ensures; layered = l.0; passes = l.1 }
