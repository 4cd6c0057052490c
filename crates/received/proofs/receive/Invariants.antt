-- `receive` keeps the chunk as long as it is.
use Rattle.std.proofs.Common.{◌≡◌, length}
use Rattle.received.proofs.receive.Given as goal

abbrev pub invariant-loop : goal.invariant-loop
invariant-loop g l = length l.chunk ≡ length l.fn.chunk
