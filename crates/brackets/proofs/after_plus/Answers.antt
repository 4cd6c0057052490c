-- `brackets::after_plus` meets its contract. Assumes nothing.
use Rattle.std.proofs.Common.{arith}
use Rattle.brackets.proofs.Laws.{none_held, no_plus_none, plus_taken, no_plus}
use Rattle.brackets.proofs.after_plus.Goals as goal

pub returns-in-Byte-eq43-default : goal.returns-in-Byte-eq43-default
returns-in-Byte-eq43-default c = let h = c.in-Byte-eq43-default in plus_taken h.ensures h.byte-test

pub returns-in-Byte : goal.returns-in-Byte
returns-in-Byte c = let h = c.in-Byte in no_plus h.ensures h.byte-test.1

pub returns-in-Never : goal.returns-in-Never
returns-in-Never c =
    let s = c.args.path.now in
    let at = c.args.from in
    no_plus_none s at (none_held s at c.unit_at.ensures c.in-Never.is) (omega arith)
