-- `ask_into::lookup_all` meets its contract: the strip carries the six numbers whole. Assumes nothing.
use mathlib.Core.Path.{◌∙◌}
use native.Mathlib.Omega.{arith}
use borrow.Author.Rules.{rules}
use Rattle.lichenhusk.specs.Strip.{filled_after}
use Rattle.lichenhusk.proofs.Carries.{all_carried}
use Rattle.ask_into.proofs.lookup_all.Statement.{statement}
use Rattle.ask_into.proofs.lookup_all.Tie as tie

pub lookup_all_spec : {M : Type 1} → statement M
unfolding filled_after
lookup_all_spec =
    tie.close
    (tie.spec
    (λ c. search rules) (λ c κs. search rules) (λ c. search rules) (λ c κs. search rules) (λ c. search rules)
    (λ c. let a = c.args in
    let told = c.lichenhusk_lookup_all.ensures in
    ((λ few. c.read.ensures ∙ all_carried a.dict.now a.object.now a.names.now a.ends.now a.words.now few told (omega arith)), told.words_left)))  -- returns
