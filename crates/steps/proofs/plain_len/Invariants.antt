-- `plain_len` keeps that no byte before `at` ends the name.
use Rattle.std.proofs.Common.{◌≡◌, ◌+◌, ◌-◌, ◌≤◌, length, drop}
use Rattle.steps.specs.Path.{plain}
use Rattle.steps.proofs.plain_len.Given as goal

abbrev pub invariant-loop-at : goal.invariant-loop-at
invariant-loop-at l = (plain (drop l.from l.path) ≡ (l.at - l.from) + plain (drop l.at l.path)) × (l.from ≤ l.at) × (l.at ≤ length l.path)
