-- `ask::layer` meets its contract: the strip carries the six numbers whole. Assumes nothing.
use mathlib.Core.Path.{◌∙◌}
use native.Mathlib.Omega.{arith}
use borrow.Author.Rules.{rules}
use Rattle.lichenhusk.proofs.Carries.{layer_carried}
use Rattle.ask.proofs.layer.Statement.{statement}
use Rattle.ask.proofs.layer.Tie as tie

pub layer_spec : {M : Type 1} → statement M
layer_spec =
    tie.close
    (tie.spec
    (λ c. search rules) (λ c κs. search rules) (λ c. search rules) (λ c κs. search rules)
    (λ c. c.read.ensures ∙ layer_carried c.args.dict.now c.args.object.now c.lichenhusk_layer.ensures (omega arith)))  -- returns
