-- `ask::name` meets its contract: the strip carries the six numbers whole. Assumes nothing.
use mathlib.Core.Path.{◌∙◌}
use native.Mathlib.Omega.{arith}
use borrow.Author.Rules.{rules}
use Rattle.lichenhusk.proofs.Carries.{name_carried}
use Rattle.ask.proofs.name.Statement.{statement}
use Rattle.ask.proofs.name.Tie as tie

pub name_spec : {M : Type 1} → statement M
name_spec =
    tie.close
    (tie.spec
    (λ c. search rules) (λ c κs. search rules) (λ c. search rules) (λ c κs. search rules)
    (λ c. c.read.ensures ∙ name_carried c.args.dict.now c.args.entry c.lichenhusk_name.ensures (omega arith)))  -- returns
