-- `text::run` meets its contract: what is left ends where the whole does. Assumes nothing.
use Rattle.std.proofs.Common.{sym, ◌∙◌, arith}
use Rattle.text.specs.Steps.{stops_at}
use Rattle.text.proofs.Laws.{before_end, before_stop, before_more}
use Rattle.text.proofs.run.Goals as goal

pub returns-then-stops : goal.returns-then-stops
returns-then-stops c =
    let ends = before_stop (stops_at c.args.stop) c.args.text.now c.loop-i.i (omega arith) (sym c.stops.ensures ∙ c.if-stops.true) in
    record { is = omega (arith, ends, c.loop-i.invariant); inside = omega arith }

pub loop-i-preserved : goal.loop-i-preserved
loop-i-preserved c =
    let more = before_more (stops_at c.args.stop) c.args.text.now c.loop-i.i (omega arith) (sym c.stops.ensures ∙ c.if-stops.false) in
    omega (arith, more, c.loop-i.invariant)

pub returns : goal.returns
returns c =
    let ends = before_end (stops_at c.args.stop) c.args.text.now c.loop-i.i (omega arith) in
    record { is = omega (arith, ends, c.loop-i.invariant); inside = omega arith }
