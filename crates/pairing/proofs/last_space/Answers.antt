-- `pairing::last_space` meets its contract: from the end on there is no space. Assumes nothing.
use Rattle.std.proofs.Common.{◌≡◌, ◌+◌, ◌-◌, arith}
use Rattle.pairing.proofs.Laws.{no_bytes, one_more, here}
use Rattle.pairing.proofs.last_space.Goals as goal

pub loop-i-init : goal.loop-i-init
loop-i-init c = no_bytes _

pub returns-then-line-i-eq32 : goal.returns-then-line-i-eq32
returns-then-line-i-eq32 c =
    let i = c.loop-i.i in
    let back : i - 1 + 1 ≡ i = omega arith in
    here (rw back c.loop-i.invariant) (omega arith)

pub loop-i-preserved : goal.loop-i-preserved
loop-i-preserved c =
    let i = c.loop-i.i in
    let back : i - 1 + 1 ≡ i = omega arith in
    one_more (rw back c.loop-i.invariant) (λ e. omega arith)

pub returns : goal.returns
returns c = let none : c.loop-i.i ≡ 0 = omega arith in (rw none at c.loop-i.invariant).after
