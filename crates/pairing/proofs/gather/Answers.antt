-- `pairing::gather` meets its contract: the lines before are pairs, and the others are left. Assumes nothing.
use Rattle.std.proofs.Common.{arith}
use Rattle.pairing.proofs.Gathering.{has_room, turn, ended}
use Rattle.pairing.proofs.gather.Goals as goal

pub loop-at-preserved : goal.loop-at-preserved
loop-at-preserved c =
    let l = c.loop-at.invariant in
    let pair = c.in-Ok.ensures.pair_of in
    let told = c.in-Ok.ensures.len_in_bounds in
    let room = has_room l.0 c.loop-at-test.true c.find-end.ensures pair (omega (arith, l.2, c.requires.text_in_bounds)) in (
      rw c.put_pair.ensures
          (turn l.0 c.loop-at-test.true c.find-end.ensures c.in-Ok.pair.len c.pair_of.new.out pair told.0 (omega (arith, c.pair_of.auto.out, l.0.bytes_in)) room),
      omega (arith, l.1, l.0.bytes_in, c.pair_of.auto.out),
      omega (arith, l.2, c.put_pair.auto.words),
    )

pub returns-clause-gather_promise : goal.returns-clause-gather_promise
returns-clause-gather_promise c = ended c.loop-at.invariant.0 c.loop-at-test.false
