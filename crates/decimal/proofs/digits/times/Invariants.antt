-- `times`: the carry stays below half a million, whatever bytes stand at the places.
use Rattle.std.proofs.Common.{◌≤◌}
use Rattle.decimal.proofs.digits.times.Given as goal

abbrev pub invariant-loop-i : goal.invariant-loop-i
invariant-loop-i l = l.carry ≤ 500000
