-- `ask_into::list` meets its contract: the strip carries the six numbers whole. Assumes nothing.
use mathlib.Core.Path.{◌∙◌}
use native.Mathlib.Omega.{arith}
use borrow.Author.Rules.{rules}
use Rattle.lichenhusk.specs.Strip.{filled_after}
use Rattle.lichenhusk.proofs.Carries.{list_carried}
use Rattle.ask_into.proofs.list.Statement.{statement}
use Rattle.ask_into.proofs.list.Tie as tie

pub list_spec : {M : Type 1} → statement M
unfolding filled_after
list_spec =
    tie.close
    (tie.spec
    (λ c. search rules) (λ c κs. search rules) (λ c. search rules) (λ c κs. search rules) (λ c. search rules)
    (λ c. let a = c.args in
    let told = c.lichenhusk_list.ensures in
    (c.read.ensures ∙ list_carried a.dict.now a.object.now a.words.now told (omega arith), told.words_left)))  -- returns
