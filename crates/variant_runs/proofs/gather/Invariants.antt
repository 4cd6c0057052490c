-- `gather` keeps within the run.
use Rattle.std.proofs.Common.{◌≤◌, length}
use Rattle.variant_runs.proofs.gather.Given as goal

abbrev pub invariant-loop-count : goal.invariant-loop-count
invariant-loop-count l = l.len ≤ length l.run
