-- `value::read` meets its contract: by the own length. Assumes nothing.
use Rattle.rules.proofs.Prelude.{◌∙◌}
use Rattle.layout.proofs.Results.{raised}
use Rattle.value.specs.Reading.{measured}
use Rattle.value.proofs.Laws.{by_length}
use Rattle.value.proofs.read.Goals as goal

pub returns-in_err-end : goal.returns-in_err-end
unfolding measured
returns-in_err-end c = raised _ c.from_residual.ensures.1 ∙ by_length _ c.in_err-end.ensures
