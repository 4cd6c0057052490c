-- `ask_into::write_dictionary` meets its contract: the strip carries the six numbers whole, and the room is as the call leaves it. Assumes nothing.
use mathlib.Core.Path.{◌∙◌}
use native.Mathlib.Omega.{arith}
use borrow.Author.Rules.{rules}
use Rattle.lichenhusk.specs.Strip.{filled_after}
use Rattle.lichenhusk.proofs.Carries.{write_carried}
use Rattle.ask_into.proofs.write_dictionary.Statement.{statement}
use Rattle.ask_into.proofs.write_dictionary.Tie as tie

pub write_dictionary_spec : {M : Type 1} → statement M
unfolding filled_after
write_dictionary_spec =
    tie.close
    (tie.spec
    (λ c. search rules) (λ c κs. search rules) (λ c. search rules) (λ c κs. search rules) (λ c. search rules) (λ c. search rules) (λ c. search rules)
    (λ c. let a = c.args in
    let told = c.lichenhusk_write_dictionary.ensures in
    ((λ few. c.read.ensures ∙ write_carried a.run.now a.ends.now a.room.now few told (omega arith)), told.words_left)))  -- returns
