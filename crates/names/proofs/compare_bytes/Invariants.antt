-- What is left of both compares as the whole does.
use Rattle.std.proofs.Common.{◌≡◌, drop}
use Rattle.names.specs.Order.{compare_of}
use Rattle.names.proofs.compare_bytes.Given as goal

abbrev pub invariant-loop-i : goal.invariant-loop-i
invariant-loop-i l = compare_of l.a l.b ≡ compare_of (drop l.i l.a) (drop l.i l.b)
