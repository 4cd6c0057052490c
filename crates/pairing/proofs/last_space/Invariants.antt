-- `last_space` keeps that there is no space from a place on.
use Rattle.pairing.proofs.Laws.{Blank}
use Rattle.pairing.proofs.last_space.Given as goal

abbrev pub invariant-loop-i : goal.invariant-loop-i
invariant-loop-i l = Blank l.line l.i
