-- `read_line` keeps within the line's room.
use Rattle.std.proofs.Common.{◌≤◌, length}
use Rattle.lines.proofs.read_line.Given as goal

abbrev pub invariant-loop : goal.invariant-loop
invariant-loop g l = l.len ≤ length l.line
