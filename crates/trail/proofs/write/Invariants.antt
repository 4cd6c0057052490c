-- `write` stays within the tree.
use Rattle.std.proofs.Common.{◌≤◌, length}
use Rattle.trail.proofs.write.Given as goal

abbrev pub invariant-loop-depth : goal.invariant-loop-depth
invariant-loop-depth g l = (l.a ≤ l.e) × (l.e ≤ length l.tree)
