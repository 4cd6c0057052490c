-- `steps::step_at` meets its contract, by the byte that starts the step. Assumes nothing.
use Rattle.std.proofs.Common.{sym, ◌∙◌, arith}
use Rattle.steps.proofs.Laws.{next_dot, next_bracket, next_close, next_name}
use Rattle.steps.proofs.step_at.Goals as goal

pub returns-in-46 : goal.returns-in-46
returns-in-46 c = (c.dotted_at.ensures.0 ∙ sym (next_dot _ _ c.in-46.is), c.dotted_at.ensures.1)

pub returns-in-91 : goal.returns-in-91
returns-in-91 c = (c.bracket_at.ensures.0 ∙ sym (next_bracket _ _ c.in-91.is), c.bracket_at.ensures.1)

pub returns-in-93 : goal.returns-in-93
returns-in-93 c = (sym (next_close _ _ c.in-93.is), tt)

pub returns-in_default : goal.returns-in_default
returns-in_default c =
    let a = c.args in
    let name = next_name a.path.now a.at _ (omega arith) (λ e. omega arith) (λ e. omega arith) (λ e. omega arith) c.plain_len-len.ensures.0 in
    (name, (omega arith, omega arith, omega arith))
