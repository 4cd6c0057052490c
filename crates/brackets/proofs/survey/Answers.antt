-- `brackets::survey` meets its contract. Assumes nothing.
use Rattle.std.proofs.Common.{arith}
use Rattle.brackets.proofs.Laws.{survey_start, survey_turn, survey_never, survey_close}
use Rattle.brackets.proofs.survey.Goals as goal

pub loop-byte-init : goal.loop-byte-init
loop-byte-init c = survey_start _ _ (omega arith)

pub returns-in-Never : goal.returns-in-Never
returns-in-Never c = survey_never c.loop-byte.invariant c.in-Never.ensures

pub returns-in-Close : goal.returns-in-Close
returns-in-Close c = survey_close c.loop-byte.invariant c.in-Close.ensures

pub loop-byte-preserved : goal.loop-byte-preserved
loop-byte-preserved c = survey_turn c.loop-byte.invariant c.in-Byte.ensures
