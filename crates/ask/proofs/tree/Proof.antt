-- `ask::tree` meets its contract: the strip carries the six numbers whole. Assumes nothing.
use mathlib.Core.Path.{◌∙◌}
use native.Mathlib.Omega.{arith}
use borrow.Author.Rules.{rules}
use Rattle.lichenhusk.proofs.Carries.{tree_carried}
use Rattle.ask.proofs.tree.Statement.{statement}
use Rattle.ask.proofs.tree.Tie as tie

pub tree_spec : {M : Type 1} → statement M
tree_spec =
    tie.close
    (tie.spec
    (λ c. search rules) (λ c. search rules) (λ c κs. search rules) (λ c. search rules) (λ c κs. search rules)
    (λ c. c.read.ensures ∙ tree_carried c.args.dict.now c.args.value.now c.lichenhusk_tree.ensures (omega arith)))  -- returns
