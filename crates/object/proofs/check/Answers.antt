-- `object::check` meets its contract: the numbers of the opened layer. Assumes nothing.
use Rattle.rules.proofs.Prelude.{sym, rules, refused, answered}
use Rattle.layout.proofs.Results.{raised}
use Rattle.layer.specs.Object.{verdict_within}
use Rattle.object.proofs.check.Goals as goal

pub returns-in_err-m : goal.returns-in_err-m
unfolding verdict_within
returns-in_err-m c = rw (raised _ c.from_residual.ensures.1) (sym (refused _ (search rules)))

pub returns : goal.returns
unfolding verdict_within
returns c = let m = c.in_ok-m.ensures in rw (c.from.ensures, m.layered.count_is, m.layered.start_is, m.layered.end_is) (sym (answered _ m.passes))
