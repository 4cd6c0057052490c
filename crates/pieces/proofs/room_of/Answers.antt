-- `pieces::room_of` meets its contract. Assumes nothing.
use Rattle.rules.proofs.Prelude.{rules}
use Rattle.dictionary.specs.Limits.{limit}
use Rattle.pieces.specs.Pieces.{room}
use Rattle.pieces.proofs.room_of.Goals as goal

pub returns : goal.returns
unfolding room limit
returns c = search rules
