-- `read` keeps within the room, and each turn leaves less of it.
use Rattle.std.proofs.Common.{◌-◌, ◌≤◌, length}
use Rattle.files.proofs.read.Given as goal

abbrev pub invariant-loop-len : goal.invariant-loop-len
invariant-loop-len g l = l.len ≤ length l.out

abbrev pub decreases-loop-len : goal.decreases-loop-len
decreases-loop-len g l = length l.out - l.len
