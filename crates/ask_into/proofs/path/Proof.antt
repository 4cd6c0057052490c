-- `ask_into::path` meets its contract: the strip carries the six numbers whole, and both buffers are as the call leaves them. Assumes nothing.
use mathlib.Core.Path.{◌∙◌}
use native.Mathlib.Omega.{arith}
use borrow.Author.Rules.{rules}
use Rattle.lichenhusk.specs.Strip.{filled_after}
use Rattle.lichenhusk.proofs.Carries.{path_carried}
use Rattle.ask_into.proofs.path.Statement.{statement}
use Rattle.ask_into.proofs.path.Tie as tie

pub path_spec : {M : Type 1} → statement M
unfolding filled_after
path_spec =
    tie.close
    (tie.spec
    (λ c. search rules) (λ c κs. search rules) (λ c. search rules) (λ c κs. search rules) (λ c. search rules) (λ c. search rules)
    (λ c. let a = c.args in
    let told = c.lichenhusk_path.ensures in (
      λ short few. c.read.ensures ∙ path_carried a.dict.now a.value.now a.path.now a.names.now a.words.now short few told (omega arith),
      (told.names_left, told.words_left),
    )))  -- returns
