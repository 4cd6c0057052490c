-- `ask_into::write_object` meets its contract: the strip carries the six numbers whole, and the room is as the call leaves it. Assumes nothing.
use mathlib.Core.Path.{◌∙◌}
use native.Mathlib.Omega.{arith}
use borrow.Author.Rules.{rules}
use Rattle.lichenhusk.specs.Strip.{filled_after}
use Rattle.lichenhusk.proofs.Carries.{write_object_carried}
use Rattle.ask_into.proofs.write_object.Statement.{statement}
use Rattle.ask_into.proofs.write_object.Tie as tie

pub write_object_spec : {M : Type 1} → statement M
unfolding filled_after
write_object_spec =
    tie.close
    (tie.spec
    (λ c. search rules) (λ c κs. search rules) (λ c. search rules) (λ c κs. search rules) (λ c. search rules) (λ c. search rules) (λ c. search rules)
    (λ c. let a = c.args in
    let told = c.lichenhusk_write_object.ensures in
    ((λ few. c.read.ensures ∙ write_object_carried a.dict.now a.bytes.now a.pairs.now a.room.now few told (omega arith)), told.words_left)))  -- returns
