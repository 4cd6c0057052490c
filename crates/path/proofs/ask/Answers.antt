-- `path::ask` meets its contract: the dictionary's refusal, or the walk over it. Assumes nothing.
use Rattle.std.proofs.Common.{sym, ◌∙◌, rules}
use Rattle.rules.proofs.Prelude.{refused, answered}
use Rattle.path.specs.Path.{asked}
use Rattle.path.proofs.ask.Goals as goal

pub returns-in_err-h : goal.returns-in_err-h
unfolding asked
returns-in_err-h c = rw (refused _ c.in_err-h.ensures) (search rules)

pub returns : goal.returns
unfolding asked
returns c = c.walk.ensures ∙ sym (answered _ c.in_ok-h.ensures.1)
