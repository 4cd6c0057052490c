-- `doubles::search` meets its contract: a name that was seen is the first double, and one that was not stands alone. Assumes nothing.
use Rattle.rules.proofs.Prelude.{◌≡◌, arith}
use Rattle.doubles.proofs.Means.{good, bad}
use Rattle.doubles.proofs.Laws.{distinct_more}
use Rattle.doubles.proofs.search.Goals as goal

pub returns-then-is_seen : goal.returns-then-is_seen
returns-then-is_seen c =
    (bad _ _ _).1 record { inside = omega arith; is_first = c.loop-number.invariant; earlier = rw c.if-is_seen.true at c.is_seen.ensures }

pub loop-number-preserved : goal.loop-number-preserved
loop-number-preserved c = distinct_more _ _ c.loop-number.invariant (rw c.if-is_seen.false at c.is_seen.ensures)

pub returns : goal.returns
returns c =
    let all : c.loop-number.number ≡ _ = omega arith in
    (good _ _).1 (rw all at c.loop-number.invariant)
