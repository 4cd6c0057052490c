-- `object::check_layer` meets its contract: the header's checks, then the others. Assumes nothing.
use Rattle.rules.proofs.Prelude.{sym}
use Rattle.layout.proofs.Results.{raised}
use Rattle.layer.proofs.Laws.{by_head}
use Rattle.object.proofs.check_layer.Goals as goal

pub returns-in_err-l : goal.returns-in_err-l
returns-in_err-l c = rw (raised _ c.from_residual.ensures.1) (by_head _ _ c.requires.1 c.in_err-l.ensures)

pub returns-in_err-check_rest : goal.returns-in_err-check_rest
returns-in_err-check_rest c = rw (raised _ c.from_residual-in_err-check_rest.ensures.1) (sym c.in_err-check_rest.ensures)

pub returns : goal.returns
returns c = (c.in_ok-l.ensures, sym c.in_ok-check_rest.ensures)
