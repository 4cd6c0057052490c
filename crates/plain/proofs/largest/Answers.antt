-- `plain::largest` meets its contract: none of the bytes so far is above the largest so far. Assumes nothing.
use Rattle.std.proofs.Common.{◌≡◌, ◌+◌, arith}
use Rattle.plain.proofs.Laws.{at_most_more}
use Rattle.plain.proofs.largest.Goals as goal

pub loop-k-init : goal.loop-k-init
loop-k-init c k p q = absurd (omega arith)

pub loop-k-preserved : goal.loop-k-preserved
loop-k-preserved c =
    let a = c.args in
    let l = c.loop-k in
    let e : a.from + (l.k + 1) ≡ a.from + l.k + 1 = omega arith in
    rw e (at_most_more a.s.now a.from (a.from + l.k) l.most c.max-most.result l.invariant (omega arith) (omega arith))

pub returns : goal.returns
returns c k p q = c.loop-k.invariant k p (omega arith)
