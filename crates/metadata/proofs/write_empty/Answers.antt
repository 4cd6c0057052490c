-- `metadata::write_empty` meets its contract: three bytes are written, or none. Assumes nothing.
use Rattle.rules.proofs.Prelude.{sym}
use Rattle.metadata.proofs.Says.{too_small, enough}
use Rattle.metadata.proofs.write_empty.Goals as goal

pub returns-then-room-lt3 : goal.returns-then-room-lt3
returns-then-room-lt3 c = let small = too_small _ c.if-room-lt3.true in record { answers = sym small.0; leaves = sym small.1 }

pub returns : goal.returns
returns c =
    let full = enough c.args.room.now c.if-room-lt3.false in
    record { answers = sym full.0; leaves = rw c.copy_from_slice.ensures.after (sym full.1) }
