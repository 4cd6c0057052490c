-- In `doubles::is_seen`, none of the numbers before i has the name of k. Assumes nothing.
use Rattle.source.specs.Names.{name_of}
use Rattle.doubles.proofs.Laws.{Unlike}
use Rattle.doubles.proofs.is_seen.Given as goal

abbrev pub invariant-loop-i : goal.invariant-loop-i
invariant-loop-i l = Unlike (name_of l.run l.words l.kind) l.k l.i
