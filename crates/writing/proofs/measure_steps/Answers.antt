-- `writing::measure_steps` meets its contract. Assumes nothing.
use Rattle.std.proofs.Common.{arith, rules}
use Rattle.writing.proofs.Measures.{count_start, count_wrong, count_end, count_turn}
use Rattle.writing.proofs.measure_steps.Goals as goal

pub loop-at-init : goal.loop-at-init
loop-at-init c = count_start _

pub returns-in_err-extent : goal.returns-in_err-extent
returns-in_err-extent c = rw (← count_wrong c.loop-at.invariant (omega arith) c.in_err-extent.ensures) (search rules)

pub loop-at-preserved : goal.loop-at-preserved
loop-at-preserved c = count_turn c.loop-at.invariant (omega arith) c.in_ok-extent.ensures

pub returns : goal.returns
returns c = let i = c.loop-at.invariant in (count_end i (omega arith), (omega (arith, i), omega (arith, i)))
