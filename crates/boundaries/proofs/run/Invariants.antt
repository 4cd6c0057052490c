-- `run`: each case is counted, no more differ than were compared, and the first is one of them.
use Rattle.std.proofs.Common.{◌≡◌, ◌≤◌, ◌<◌, IfSome}
use Rattle.boundaries.proofs.run.Given as goal

abbrev pub invariant-loop-number : goal.invariant-loop-number
invariant-loop-number l = (l.compared ≡ l.number) × (l.differ ≤ l.number) × IfSome l.first (λ first. first < 225224)
