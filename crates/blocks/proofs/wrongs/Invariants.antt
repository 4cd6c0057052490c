-- Where no flag is up so far, each byte so far is right.
use Rattle.std.proofs.Common.{◌≡◌, ◌+◌, false}
use Rattle.blocks.specs.Steps.{Rights}
use Rattle.blocks.proofs.wrongs.Given as goal

abbrev pub invariant-loop-k : goal.invariant-loop-k
invariant-loop-k l = l.any ≡ false → Rights l.s (l.from + 3) (l.from + l.k + 3)
