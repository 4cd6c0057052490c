-- What is left to copy makes the same of the room as the whole.
use Rattle.std.proofs.Common.{◌≡◌, ◌+◌, ◌-◌}
use Rattle.std.specs.Prelude.{take, drop}
use Rattle.std.proofs.lemmas.List.Edits.{sets}
use Rattle.put.proofs.copy.Given as goal

abbrev pub invariant-loop-i : goal.invariant-loop-i
invariant-loop-i l =
    sets l.room (l.to + l.i) (take (l.len - l.i) (drop (l.from + l.i) l.bytes)) ≡ sets l.fn.room l.to (take l.len (drop l.from l.bytes))
