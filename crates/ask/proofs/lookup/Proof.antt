-- `ask::lookup` meets its contract: the strip carries the six numbers whole. Assumes nothing.
use mathlib.Core.Path.{◌∙◌}
use native.Mathlib.Omega.{arith}
use borrow.Author.Rules.{rules}
use Rattle.lichenhusk.proofs.Carries.{lookup_carried}
use Rattle.ask.proofs.lookup.Statement.{statement}
use Rattle.ask.proofs.lookup.Tie as tie

pub lookup_spec : {M : Type 1} → statement M
lookup_spec =
    tie.close
    (tie.spec
    (λ c. search rules) (λ c κs. search rules) (λ c. search rules) (λ c κs. search rules)
    (λ c. let a = c.args in c.read.ensures ∙ lookup_carried a.dict.now a.object.now a.name.now c.lichenhusk_lookup.ensures (omega arith)))  -- returns
