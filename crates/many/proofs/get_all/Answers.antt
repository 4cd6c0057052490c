-- `many::get_all` meets its contract: 45, or what comes over good ends. Assumes nothing.
use Rattle.rules.proofs.Prelude.{sym, refused, stops}
use Rattle.run.proofs.Means.{good}
use Rattle.layout.proofs.Results.{raised}
use Rattle.many.specs.Many.{many_checks_within, lookups_within, rows_after_within}
use Rattle.many.proofs.get_all.Goals as goal

pub returns-in_err-check : goal.returns-in_err-check
unfolding many_checks_within lookups_within rows_after_within
returns-in_err-check c =
    let e = stops _ (sym c.in_err-check.ensures) in
    let is = raised _ c.from_residual.ensures.1 in
    record { answers = rw is (sym (refused _ e)); leaves = rw e }

pub get_all_over-requires : goal.get_all_over-requires
get_all_over-requires c = (good _ _).0 (sym c.in_ok-check.ensures)
