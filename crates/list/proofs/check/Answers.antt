-- `list::check` meets its contract: the layout's checks, then the elements'. Assumes nothing.
use Rattle.rules.proofs.Prelude.{sym, ◌∙◌}
use Rattle.layout.proofs.Results.{raised}
use Rattle.list.proofs.Laws.{by_flaw, by_elements}
use Rattle.list.proofs.check.Goals as goal

pub returns-in_err-l : goal.returns-in_err-l
returns-in_err-l c = rw (raised _ c.from_residual.ensures.1) (by_flaw c.args.w c.args.list.now _ c.in_err-l.ensures)

pub returns-in_err-check_offsets : goal.returns-in_err-check_offsets
returns-in_err-check_offsets c =
    rw (raised _ c.from_residual-in_err-check_offsets.ensures.1)
    (by_elements c.args.w c.args.list.now c.in_ok-l.ensures.passes ∙ sym c.in_err-check_offsets.ensures)

pub returns : goal.returns
returns c =
    let l = c.in_ok-l.ensures in
    let all = by_elements c.args.w c.args.list.now l.passes ∙ sym c.in_ok-check_offsets.ensures in
    record { few = c.requires; numbers = l; passes = all }
