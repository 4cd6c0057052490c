-- `steps::dotted_at` meets its contract. Assumes nothing.
use Rattle.std.proofs.Common.{sym, ◌∙◌, ◌+◌, arith}
use Rattle.steps.proofs.Laws.{dotted_end, dotted_stop, dotted_name}
use Rattle.steps.proofs.dotted_at.Goals as goal

pub returns-then-path-at : goal.returns-then-path-at
returns-then-path-at c = let a = c.args in (sym (dotted_end a.path.now (a.at + 1) (omega arith)), tt)

pub returns-then-len-eq0 : goal.returns-then-len-eq0
returns-then-len-eq0 c =
    let a = c.args in
    (sym (dotted_stop a.path.now (a.at + 1) (omega arith) (sym c.plain_len-len.ensures.0 ∙ c.if-len-eq0.true)), tt)

pub returns : goal.returns
returns c =
    let a = c.args in
    let name = dotted_name a.path.now (a.at + 1) (omega arith) _ c.plain_len-len.ensures.0 c.if-len-eq0.false in
    (sym name, (omega arith, omega arith, omega arith))
