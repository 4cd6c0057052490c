-- `digits_at` keeps that the number so far and what is left say what the whole does.
use Rattle.std.proofs.Common.{◌≡◌, false, ◌-◌, ◌≤◌, ◌<◌, length, drop}
use Rattle.brackets.specs.Brackets.{index_limit, content, digits, small}
use Rattle.brackets.proofs.digits_at.Given as goal

abbrev pub invariant-loop-byte : goal.invariant-loop-byte
invariant-loop-byte l =
    (small (digits 0 (content false (drop l.from l.path))) ≡ small (digits l.value (content false (drop l.at l.path))))
    × (l.at ≤ length l.path) × (l.value < index_limit)

abbrev pub decreases-loop-byte : goal.decreases-loop-byte
decreases-loop-byte l = length l.path - l.at
