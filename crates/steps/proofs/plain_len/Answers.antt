-- `steps::plain_len` meets its contract. Assumes nothing.
use Rattle.std.proofs.Common.{sym, ◌∙◌, arith}
use Rattle.steps.proofs.Laws.{plain_end, plain_stop, plain_more}
use Rattle.steps.proofs.plain_len.Goals as goal

pub returns-then-is_end : goal.returns-then-is_end
returns-then-is_end c =
    let stop = plain_stop c.args.path.now c.loop-at.at (omega arith) (sym c.is_end.ensures ∙ c.if-is_end.true) in
    (omega (arith, stop), omega arith)

pub loop-at-preserved : goal.loop-at-preserved
loop-at-preserved c =
    let more = plain_more c.args.path.now c.loop-at.at (omega arith) (sym c.is_end.ensures ∙ c.if-is_end.false) in
    (omega (arith, more), omega arith, omega arith)

pub returns : goal.returns
returns c = (omega (arith, plain_end c.args.path.now c.loop-at.at (omega arith)), omega arith)
