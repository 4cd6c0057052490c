-- `feed_all` keeps both rooms as long as they are, and ends: each piece is a word further on.
use Rattle.std.proofs.Common.{◌≡◌, ◌-◌, length}
use Rattle.cases.proofs.fed.feed_all.Given as goal

abbrev pub invariant-loop-answer : goal.invariant-loop-answer
invariant-loop-answer l = (length l.piece ≡ length l.fn.piece) × (length l.store ≡ length l.fn.store)

abbrev pub decreases-loop-answer : goal.decreases-loop-answer
decreases-loop-answer l = length l.line - l.at
