-- `many::get_all_over` meets its contract: the refusal, or 41, or the rows. Assumes nothing.
use Rattle.rules.proofs.Prelude.{sym, ◌∙◌, ◌*◌, ◌≤◌, ◌<◌, arith, length, refused, answered, stops, goes, first_at, first_pass}
use Rattle.run.proofs.Means.{good}
use Rattle.layout.proofs.Results.{raised}
use Rattle.many.specs.Many.{many_checks_within, lookups_within, rows_after_within}
use Rattle.many.proofs.get_all_over.Goals as goal

pub returns-in_err-m : goal.returns-in_err-m
unfolding many_checks_within lookups_within rows_after_within
returns-in_err-m c =
    let e = goes _ ((good _ _).1 c.requires) ∙ stops _ c.in_err-m.ensures in
    let is = raised _ c.from_residual.ensures.1 in
    record { answers = rw is (sym (refused _ e)); leaves = rw e }

pub returns-then-words-ends : goal.returns-then-words-ends
unfolding many_checks_within lookups_within rows_after_within
returns-then-words-ends c =
    let m = c.in_ok-m.ensures in
    let short : length c.args.words.now < 5 * length c.args.ends.now = omega arith in
    let e = goes _ ((good _ _).1 c.requires) ∙ goes _ m.passes ∙ first_at 0 _ short in
    record { answers = sym (refused _ e); leaves = rw e }

pub returns : goal.returns
unfolding many_checks_within lookups_within rows_after_within
returns c =
    let m = c.in_ok-m.ensures in
    let room : 5 * length c.args.ends.now ≤ length c.args.words.now = omega arith in
    let e = goes _ ((good _ _).1 c.requires) ∙ goes _ m.passes ∙ first_pass _ (room, tt) in
    record {
      answers = rw (c.from.ensures, m.layered.count_is, m.layered.start_is, m.layered.end_is) (sym (answered _ e));
      leaves = c.write_rows.ensures ∙ rw e;
    }
