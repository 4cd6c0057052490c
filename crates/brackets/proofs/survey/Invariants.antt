-- `survey` keeps what has been seen up to `at`.
use Rattle.std.proofs.Common.{◌-◌, length}
use Rattle.brackets.proofs.Laws.{Surveyed}
use Rattle.brackets.proofs.survey.Given as goal

abbrev pub invariant-loop-byte : goal.invariant-loop-byte
invariant-loop-byte l = Surveyed l.path l.from l.at l.count l.last

abbrev pub decreases-loop-byte : goal.decreases-loop-byte
decreases-loop-byte l = length l.path - l.at
