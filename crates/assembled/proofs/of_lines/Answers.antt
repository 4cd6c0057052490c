-- `assembled::of_lines`: what was written of the pairs of the lines is theirs, and within the room.
use Rattle.std.proofs.Common.{arith}
use Rattle.assembled.proofs.Laws.{of_lines}
use Rattle.assembled.proofs.of_lines.Goals as goal

pub returns-clause-assembled : goal.returns-clause-assembled
returns-clause-assembled g c =
    let told = c.in-Ok.ensures in
    let w = c.assemble-a in
    let object = of_lines c.gather.new.bytes c.gather.new.words c.args.out.now c.in-Ok.pairs w.result told.gather_promise
    (omega (arith, told.len_in_bounds, c.gather.auto, c.word_room-words.type_inv)) w.ensures.result_value w.ensures.out_after c.if-a-ne0.false in
    object.0

pub returns-clause-upper_bound : goal.returns-clause-upper_bound
returns-clause-upper_bound g c =
    let told = c.in-Ok.ensures in
    let w = c.assemble-a in
    let object = of_lines c.gather.new.bytes c.gather.new.words c.args.out.now c.in-Ok.pairs w.result told.gather_promise
    (omega (arith, told.len_in_bounds, c.gather.auto, c.word_room-words.type_inv)) w.ensures.result_value w.ensures.out_after c.if-a-ne0.false in
    omega (arith, object.1, w.auto)
