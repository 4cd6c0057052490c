-- `put::number` meets its contract: the loop keeps that what is left makes the same of the room as the whole. Assumes nothing.
use Rattle.rules.proofs.Prelude.{◌≡◌, sym, ◌∙◌, ◌+◌, ◌-◌, arith}
use Rattle.put.proofs.Laws.{number_turn, number_end}
use Rattle.put.proofs.number.Goals as goal

pub loop-at-init : goal.loop-at-init
loop-at-init c = let a = c.args in let e : a.to + a.width - a.to ≡ a.width = omega arith in rw e

pub loop-at-preserved : goal.loop-at-preserved
loop-at-preserved c =
    let a = c.args in
    let l = c.loop-at in
    let e : a.to + a.width - (l.at + 1) ≡ a.to + a.width - l.at - 1 = omega arith in
    rw e (number_turn l.room l.at (a.to + a.width - l.at) l.rest (omega arith) ∙ l.invariant)

pub returns : goal.returns
returns c = let l = c.loop-at in sym (number_end l.room l.at _ l.rest (omega arith)) ∙ l.invariant
