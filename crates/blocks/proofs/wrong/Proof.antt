-- `blocks::wrong` meets its contract: it is the definition, word for word. Assumes nothing.
use mathlib.Core.Path.{refl}
use Rattle.blocks.specs.Steps.{wrong_of}
use Rattle.blocks.proofs.wrong.Statement.{statement}
use Rattle.blocks.proofs.wrong.Tie as tie

returns : tie.Need-returns
unfolding wrong_of
returns c = refl

pub wrong_spec : {M : Type 1} → statement M
wrong_spec = tie.close (tie.spec returns)
