-- What is left makes the same of the room as the whole.
use Rattle.std.proofs.Common.{◌≡◌, ◌+◌, ◌-◌}
use Rattle.std.proofs.lemmas.List.Edits.{sets}
use Rattle.width.specs.Width.{bytes_of}
use Rattle.put.proofs.number.Given as goal

abbrev pub invariant-loop-at : goal.invariant-loop-at
invariant-loop-at l = sets l.room l.at (bytes_of (l.to + l.width - l.at) l.rest) ≡ sets l.fn.room l.to (bytes_of l.width l.n)
