-- `measure_steps` keeps that the steps before `at` have been counted.
use Rattle.std.proofs.Common.{◌-◌, length}
use Rattle.writing.proofs.Measures.{Counted}
use Rattle.writing.proofs.measure_steps.Given as goal

abbrev pub invariant-loop-at : goal.invariant-loop-at
invariant-loop-at l = Counted l.path l.at l.count l.total

abbrev pub decreases-loop-at : goal.decreases-loop-at
decreases-loop-at l = length l.path - l.at
