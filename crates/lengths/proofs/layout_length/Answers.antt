-- `lengths::layout_length` meets its contract: the layout's own table, by cases. Assumes nothing.
use Rattle.rules.proofs.Prelude.{◌∙◌, ap, arith, first_pass}
use Rattle.std.specs.Prelude.{Ok}
use Rattle.layout.specs.Layout.{rules}
use Rattle.layout.proofs.Results.{raised}
use Rattle.lengths.specs.Lengths.{bytes_by, length_rules, case_of, length_by}
use Rattle.lengths.proofs.Laws.{layout_flaw}
use Rattle.lengths.proofs.layout_length.Goals as goal

pub returns-in_err-l : goal.returns-in_err-l
returns-in_err-l c =
    raised _ c.from_residual.ensures.1 ∙ layout_flaw _ c.args.w c.args.s.now c.in_err-l.ensures

pub returns : goal.returns
unfolding bytes_by length_rules case_of length_by
returns c =
    let l = c.in_ok-l.ensures in
    rw (first_pass (rules 1 2 4 c.args.w c.args.s.now) (omega (arith, l.passes))) (ap Ok l.end_is)
