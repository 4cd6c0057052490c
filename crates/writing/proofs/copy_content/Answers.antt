-- `writing::copy_content` meets its contract. Assumes nothing.
use Rattle.std.proofs.Common.{◌∙◌, length-set, arith}
use Rattle.writing.proofs.Writes.{content_turn}
use Rattle.writing.proofs.copy_content.Goals as goal

pub loop-i-preserved : goal.loop-i-preserved
loop-i-preserved c =
    let l = c.loop-i in
    let a = c.args in
    let turn = content_turn l.names a.to l.i a.len a.path.now l.at _ _ (omega arith) c.in-Byte.ensures in
    (l.invariant.0 ∙ turn, omega arith, simp length-set l.invariant.2)
