-- `numbers_at` keeps within the room: it ends where that is full.
use Rattle.std.proofs.Common.{◌-◌, ◌≤◌, length}
use Rattle.operands.proofs.numbers_at.Given as goal

abbrev pub invariant-loop-from : goal.invariant-loop-from
invariant-loop-from l = l.len ≤ length l.out

abbrev pub decreases-loop-from : goal.decreases-loop-from
decreases-loop-from l = length l.out - l.len
