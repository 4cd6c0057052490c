-- None of the bytes so far is above the largest so far.
use Rattle.std.proofs.Common.{◌+◌}
use Rattle.plain.specs.Steps.{AtMost}
use Rattle.plain.proofs.largest.Given as goal

abbrev pub invariant-loop-k : goal.invariant-loop-k
invariant-loop-k l = AtMost l.s l.from (l.from + l.k) l.most
