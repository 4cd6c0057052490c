-- `path::walk` meets its contract. Assumes nothing.
use Rattle.std.proofs.Common.{arith, rules}
use Rattle.path.proofs.Laws.{start, stands, ends, turn, done}
use Rattle.path.proofs.walk.Goals as goal

pub loop-number-init : goal.loop-number-init
loop-number-init c = start _ _ _ _ _ c.requires.1

pub overflow_mul-number : goal.overflow_mul-number
overflow_mul-number c = let s = stands _ _ _ _ _ _ _ c.loop-number.invariant (omega arith) in omega (arith, s.room)

pub take-requires : goal.take-requires
take-requires c = (c.requires.0, stands _ _ _ _ _ _ _ c.loop-number.invariant (omega arith))

pub returns-in_err-take : goal.returns-in_err-take
returns-in_err-take c = rw (← ends _ _ _ _ _ _ _ c.loop-number.invariant (omega arith) _ _ c.in_err-take.ensures) (search rules)

pub returns-in-None : goal.returns-in-None
returns-in-None c = ends _ _ _ _ _ _ _ c.loop-number.invariant (omega arith) 1 0 (rw c.in-None.is at c.in_ok-take.ensures)

pub overflow_add-at : goal.overflow_add-at
overflow_add-at c =
    let next = turn _ _ _ _ _ _ _ c.loop-number.invariant (omega arith) c.in-Some.found (rw c.in-Some.is at c.in_ok-take.ensures) in
    omega (arith, next.rises, next.inside)

pub overflow_add-at-in-Some : goal.overflow_add-at-in-Some
overflow_add-at-in-Some c =
    let next = turn _ _ _ _ _ _ _ c.loop-number.invariant (omega arith) c.in-Some.found (rw c.in-Some.is at c.in_ok-take.ensures) in
    omega (arith, next.inside)

pub loop-number-preserved : goal.loop-number-preserved
loop-number-preserved c =
    turn _ _ _ _ _ _ _ c.loop-number.invariant (omega arith) c.in-Some.found (rw c.in-Some.is at c.in_ok-take.ensures)

pub returns : goal.returns
returns c = done _ _ _ _ _ _ _ c.loop-number.invariant (omega arith)
