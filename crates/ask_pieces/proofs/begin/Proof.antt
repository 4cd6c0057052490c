-- `ask_pieces::begin` meets its contract: the strip carries the first state whole. Assumes nothing.
use mathlib.Core.Path.{◌∙◌}
use native.Mathlib.Omega.{arith}
use borrow.Author.Rules.{rules}
use Rattle.strip.specs.Shapes.{dictionary_shape}
use Rattle.pieces.specs.Pieces.{more}
use Rattle.host.proofs.Carries.{carried}
use Rattle.ask_pieces.proofs.begin.Statement.{statement}
use Rattle.ask_pieces.proofs.begin.Tie as tie

pub begin_spec : {M : Type 1} → statement M
begin_spec =
    tie.close
    (tie.spec
    (λ c κs. search rules) (λ c κs. search rules)
    (λ c. let told = c.lichenhusk_begin.ensures in
    (c.read.ensures ∙ carried dictionary_shape (more 0 1) told (omega arith) (omega arith), c.read.ensures)))  -- returns
