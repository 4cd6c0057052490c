-- `entry_of` keeps that no entry before the one that is asked about is the name.
use Rattle.pairing.proofs.Laws.{Passed}
use Rattle.pairing.proofs.entry_of.Given as goal

abbrev pub invariant-loop-i : goal.invariant-loop-i
invariant-loop-i l = Passed l.dict l.name l.i
