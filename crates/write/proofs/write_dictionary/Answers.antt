-- `write::write_dictionary` meets its contract: 45, and the rest once the names are good. Assumes nothing.
use Rattle.std.proofs.lemmas.Result.{err_from_is_err_and}
use Rattle.rules.proofs.Prelude.{sym}
use Rattle.given.proofs.Means.{good, good_ends}
use Rattle.lay.proofs.Items.{lent_names}
use Rattle.pick.proofs.Laws.{sorted_by}
use Rattle.write.proofs.Laws.{refused_name, good_names}
use Rattle.write.proofs.write_dictionary.Goals as goal

pub returns-in_err-check : goal.returns-in_err-check
returns-in_err-check c =
    let p = err_from_is_err_and c.from_residual.result c.from_residual.ensures.1 in
    rw (p.1, p.2) (refused_name _ _ _ _ c.in_err-check.ensures)

pub plan_for-plan-requires : goal.plan_for-plan-requires
plan_for-plan-requires c = (lent_names _ _ (good_ends _ _ ((good _ _).0 (sym c.in_ok-check.ensures)))).sound

pub finish-requires : goal.finish-requires
finish-requires c = (good_ends _ _ ((good _ _).0 (sym c.in_ok-check.ensures)), sorted_by _ _ _ _ _ _ c.plan_for-plan.ensures.0 c.sorted.ensures)

pub returns : goal.returns
returns c = good_names _ _ _ c.in_ok-check.ensures c.finish.ensures
