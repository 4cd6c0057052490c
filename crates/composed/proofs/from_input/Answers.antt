-- `composed::from_input`: what was written is within the room.
use Rattle.std.proofs.Common.{arith}
use Rattle.composed.proofs.Laws.{within}
use Rattle.composed.proofs.from_input.Goals as goal

pub returns : goal.returns
returns g c =
    omega (arith, within _ _ _ _ c.compose-a.ensures.result_value c.if-a-ne0.false, c.compose-a.auto)
