-- `walk` keeps that what is left of the steps decides as all of them do.
use Rattle.path.proofs.Laws.{Come}
use Rattle.path.proofs.walk.Given as goal

abbrev pub invariant-loop-number : goal.invariant-loop-number
invariant-loop-number l = Come l.dict l.value l.names l.words l.count l.number l.at
