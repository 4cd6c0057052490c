-- `answer_lines` keeps both rooms as long as they are.
use Rattle.std.proofs.Common.{◌≡◌, length}
use Rattle.command.proofs.batch.answer_lines.Given as goal

abbrev pub invariant-loop : goal.invariant-loop
invariant-loop g l = (length l.chunk ≡ length l.fn.chunk) × (length l.line ≡ length l.fn.line)
