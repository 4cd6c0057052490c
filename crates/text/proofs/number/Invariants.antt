-- `number` keeps that what is left of the digits decides as the whole does.
use Rattle.std.proofs.Common.{◌≡◌, ◌≤◌, drop}
use Rattle.text.specs.Text.{decimal, small, number_of}
use Rattle.text.proofs.number.Given as goal

abbrev pub invariant-loop-b : goal.invariant-loop-b
invariant-loop-b l = (small (decimal l.value (drop l.b-index l.text)) ≡ number_of l.text) × (l.value ≤ 4294967295)
