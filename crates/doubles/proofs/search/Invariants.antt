-- In `doubles::search`, no two of the numbers passed have one name. Assumes nothing.
use Rattle.sets.specs.Sets.{Distinct}
use Rattle.source.specs.Names.{name_of}
use Rattle.doubles.proofs.search.Given as goal

abbrev pub invariant-loop-number : goal.invariant-loop-number
invariant-loop-number l = Distinct (name_of l.run l.words l.kind) 0 l.number
