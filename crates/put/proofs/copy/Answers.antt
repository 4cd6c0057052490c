-- `put::copy` meets its contract: the loop keeps that what is left makes the same of the room as the whole. Assumes nothing.
use Rattle.rules.proofs.Prelude.{◌≡◌, sym, ◌∙◌, ◌+◌, ◌-◌, arith, drop}
use Rattle.put.proofs.Laws.{plain_turn, copy_end}
use Rattle.put.proofs.copy.Goals as goal

pub loop-i-init : goal.loop-i-init
loop-i-init c =
    let a = c.args in
    let z : a.to + 0 ≡ a.to = omega arith in
    let f : a.from + 0 ≡ a.from = omega arith in
    let n : a.len - 0 ≡ a.len = omega arith in
    rw (z, f, n)

pub loop-i-preserved : goal.loop-i-preserved
loop-i-preserved c =
    let a = c.args in
    let l = c.loop-i in
    sym (plain_turn l.room a.to l.i a.len a.bytes.now a.from (omega arith) (omega arith)) ∙ l.invariant

pub returns : goal.returns
returns c =
    let a = c.args in
    let l = c.loop-i in
    sym (copy_end l.room a.to l.i a.len (drop (a.from + l.i) a.bytes.now) (omega arith)) ∙ l.invariant
