-- `pieces_call::begin` meets its contract: 40, or the words of the first state. Assumes nothing.
use Rattle.rules.proofs.Prelude.{arith, rules}
use Rattle.strip.proofs.Laws.{no_strip, on_strip}
use Rattle.pieces_call.proofs.begin.Goals as goal

pub returns-then-strip-lt-STRIP : goal.returns-then-strip-lt-STRIP
returns-then-strip-lt-STRIP c = no_strip _ _ (omega arith)

pub returns : goal.returns
returns c = on_strip _ _ (omega arith) c.more.ensures c.write.ensures
