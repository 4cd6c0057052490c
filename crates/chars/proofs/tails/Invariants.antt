-- What is left to look at decides as the whole does.
use Rattle.std.proofs.Common.{◌≡◌, ◌+◌, ◌-◌, drop}
use Rattle.chars.specs.Rfc3629.{tails_of}
use Rattle.chars.proofs.tails.Given as goal

abbrev pub invariant-loop-at : goal.invariant-loop-at
invariant-loop-at l = tails_of l.first l.last l.rest (drop l.from l.s) ≡ tails_of l.lo l.hi (l.from + l.rest - l.at) (drop l.at l.s)
