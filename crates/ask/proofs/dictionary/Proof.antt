-- `ask::dictionary` meets its contract: the strip carries the six numbers whole. Assumes nothing.
use mathlib.Core.Path.{◌∙◌}
use native.Mathlib.Omega.{arith}
use borrow.Author.Rules.{rules}
use Rattle.lichenhusk.proofs.Carries.{dictionary_carried}
use Rattle.ask.proofs.dictionary.Statement.{statement}
use Rattle.ask.proofs.dictionary.Tie as tie

pub dictionary_spec : {M : Type 1} → statement M
dictionary_spec =
    tie.close
    (tie.spec
    (λ c. search rules) (λ c κs. search rules) (λ c. search rules) (λ c κs. search rules)
    (λ c. c.read.ensures ∙ dictionary_carried c.args.dict.now c.lichenhusk_dictionary.ensures (omega arith)))  -- returns
