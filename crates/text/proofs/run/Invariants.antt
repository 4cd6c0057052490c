-- `run` keeps that what is left ends where the whole does.
use Rattle.std.proofs.Common.{◌≡◌, ◌+◌, min, length, drop}
use Rattle.text.specs.Text.{before}
use Rattle.text.specs.Steps.{stops_at}
use Rattle.text.proofs.run.Given as goal

abbrev pub invariant-loop-i : goal.invariant-loop-i
invariant-loop-i l =
    min l.i (length l.text) + before (stops_at l.stop) (drop l.i l.text) ≡ min l.from (length l.text) + before (stops_at l.stop) (drop l.from l.text)
