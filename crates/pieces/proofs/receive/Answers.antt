-- `pieces::receive` meets its contract: a state past the room is 44; else the piece is copied after the bytes held, and all are judged.
-- Assumes nothing.
use Rattle.rules.proofs.Prelude.{◌≡◌, sym, ◌+◌, ◌≤◌, ◌<◌, length, arith}
use native.Mathlib.Nat.{sub-zero}
use lib.Seq.{length-sets}
use Rattle.pieces.specs.Pieces.{room}
use Rattle.pieces.proofs.Laws.{room_inside, fits, past_room, past_stays, taken}
use Rattle.pieces.proofs.receive.Goals as goal

pub returns-then-room-held : goal.returns-then-room-held
returns-then-room-held c =
    let a = c.args in
    let past : room a.store.now < a.held = omega arith in
    record { answers = sym (past_room _ _ _ past); leaves = sym (past_stays _ _ _ past) }

pub copy-requires : goal.copy-requires
copy-requires c = omega (arith, room_inside c.args.store.now)

pub slice_bounds-judge-end : goal.slice_bounds-judge-end
slice_bounds-judge-end c =
    let a = c.args in
    let fine : a.held + c.min-n.result ≤ length c.copy.new.room = rw (c.copy.ensures, length-sets) (omega (arith, room_inside a.store.now)) in
    omega (arith, fine)

pub returns : goal.returns
returns c =
    let a = c.args in
    let inside : a.held ≤ room a.store.now = omega arith in
    let n = c.min-n.result in
    let n-is : n ≡ fits a.store.now a.piece.now a.held inside = omega arith in
    taken a.store.now a.piece.now a.held inside n _ _ n-is c.copy.ensures (rw sub-zero at c.judge.ensures)
