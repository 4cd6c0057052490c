-- `copy_content` keeps that what is left makes the same of the names as the whole.
use Rattle.std.proofs.Common.{◌≡◌, false, ◌+◌, ◌-◌, ◌≤◌, length, take, drop}
use Rattle.std.proofs.lemmas.List.Edits.{sets}
use Rattle.brackets.specs.Brackets.{content}
use Rattle.writing.proofs.copy_content.Given as goal

abbrev pub invariant-loop-i : goal.invariant-loop-i
invariant-loop-i l =
    (sets l.fn.names l.to (take l.len (content false (drop l.from l.path))) ≡ sets l.names (l.to + l.i) (take (l.len - l.i) (content false (drop l.at l.path))))
    × (l.i ≤ l.len) × (length l.names ≡ length l.fn.names)
