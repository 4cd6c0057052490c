-- `chars::tails` meets its contract: what is left to look at decides as the whole does. Assumes nothing.
use Rattle.std.proofs.Common.{◌≡◌, ◌+◌, ◌-◌, sym, ◌∙◌, arith}
use Rattle.chars.proofs.Laws.{tails_none, tails_past, tails_low, tails_high, tails_in}
use Rattle.chars.proofs.tails.Goals as goal

pub returns-then-s-from : goal.returns-then-s-from
returns-then-s-from c = let a = c.args in sym (tails_past a.from a.s.now a.first a.last a.rest c.if-s-from.true)

pub loop-at-init : goal.loop-at-init
loop-at-init c = let a = c.args in let e : a.from + a.rest - a.from ≡ a.rest = omega arith in rw e

pub returns-then-byte-lo : goal.returns-then-byte-lo
returns-then-byte-lo c =
    let l = c.loop-at in
    sym (l.invariant ∙ tails_low l.lo l.hi l.at c.args.s.now _ (omega arith) (omega arith) (omega arith))

pub returns-then-hi-byte : goal.returns-then-hi-byte
returns-then-hi-byte c =
    let l = c.loop-at in
    sym (l.invariant ∙ tails_high l.lo l.hi l.at c.args.s.now _ (omega arith) (omega arith) (omega arith) (omega arith))

pub loop-at-preserved : goal.loop-at-preserved
loop-at-preserved c =
    let a = c.args in
    let l = c.loop-at in
    let left : a.from + a.rest - (l.at + 1) ≡ a.from + a.rest - l.at - 1 = omega arith in
    rw left (l.invariant ∙ tails_in l.lo l.hi l.at a.s.now (a.from + a.rest - l.at) (omega arith) (omega arith) (omega arith) (omega arith))

pub returns : goal.returns
returns c =
    let a = c.args in
    let l = c.loop-at in
    let left : a.from + a.rest - l.at ≡ 0 = omega arith in sym (l.invariant ∙ rw (left, tails_none))
