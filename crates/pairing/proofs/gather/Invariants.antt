-- `gather` keeps that the lines before are pairs, and the others are left.
use Rattle.std.proofs.Common.{◌≡◌, ◌-◌, length}
use Rattle.pairing.proofs.Gathering.{Left}
use Rattle.pairing.proofs.gather.Given as goal

abbrev pub invariant-loop-at : goal.invariant-loop-at
invariant-loop-at l =
    Left l.text l.dict l.bytes l.words l.at l.line l.len l.count × (length l.bytes ≡ length l.fn.bytes) × (length l.words ≡ length l.fn.words)

abbrev pub decreases-loop-at : goal.decreases-loop-at
decreases-loop-at l = length l.text - l.at
