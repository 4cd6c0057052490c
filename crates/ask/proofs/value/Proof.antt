-- `ask::value` meets its contract: the strip carries the six numbers whole. Assumes nothing.
use mathlib.Core.Path.{◌∙◌}
use native.Mathlib.Omega.{arith}
use borrow.Author.Rules.{rules}
use Rattle.lichenhusk.proofs.Carries.{value_carried}
use Rattle.ask.proofs.value.Statement.{statement}
use Rattle.ask.proofs.value.Tie as tie

pub value_spec : {M : Type 1} → statement M
value_spec =
    tie.close
    (tie.spec
    (λ c. search rules) (λ c κs. search rules) (λ c. search rules) (λ c κs. search rules)
    (λ c. let known = c.shared_slice_known-1.given in
    c.read.ensures ∙ value_carried c.args.value.now (λ k. omega (arith, known k)) c.lichenhusk_value.ensures (omega arith)))  -- returns
