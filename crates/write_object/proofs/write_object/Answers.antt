-- `write_object::write_object` meets its contract: each check in its order, and the bytes once all pass. Assumes nothing.
use Rattle.std.proofs.lemmas.Result.{err_from_is_err_and}
use Rattle.rules.proofs.Prelude.{refl, sym, ◌∙◌}
use Rattle.pairs.proofs.Means.{ids_good, ranges_good}
use Rattle.write_object.specs.Writing.{checks}
use Rattle.write_object.proofs.Laws.{left_first, left_next, left_child, doubles_are, sound_pairs, ready, over_header, promised}
use Rattle.write_object.proofs.write_object.Goals as goal

pub returns-in_err-header : goal.returns-in_err-header
unfolding checks
returns-in_err-header c =
    let p = err_from_is_err_and c.from_residual.result c.from_residual.ensures.1 in
    promised (left_first _ _ c.in_err-header.ensures (rw (p.1, p.2) refl))

pub check_ids-requires : goal.check_ids-requires
check_ids-requires c = c.in_ok-header.ensures.0.count_is

pub returns-in_err-most : goal.returns-in_err-most
unfolding checks
returns-in_err-most c =
    let p = err_from_is_err_and c.from_residual-in_err-most.result c.from_residual-in_err-most.ensures.1 in
    promised (left_next _ c.in_ok-header.ensures.1 (left_first _ _ c.in_err-most.ensures (rw (p.1, p.2) refl)))

pub check-requires : goal.check-requires
check-requires c =
    sound_pairs _ _ _ _ (over_header _ _ c.in_ok-header.ensures) ((ids_good _ _).0 c.in_ok-most.ensures.0)

pub returns-in_err-plan : goal.returns-in_err-plan
unfolding checks
returns-in_err-plan c =
    let p = err_from_is_err_and c.from_residual-in_err-plan.result c.from_residual-in_err-plan.ensures.1 in
    promised
    (left_next _ c.in_ok-header.ensures.1
    (left_next _ c.in_ok-most.ensures.0 (left_first _ _ (sym (doubles_are _ _ _ _) ∙ c.in_err-plan.ensures) (rw (p.1, p.2) refl))))

pub returns-in_err-check_children : goal.returns-in_err-check_children
unfolding checks
returns-in_err-check_children c =
    let p = err_from_is_err_and c.from_residual-in_err-check_children.result c.from_residual-in_err-check_children.ensures.1 in
    promised
    (left_next _ c.in_ok-header.ensures.1
    (left_next _ c.in_ok-most.ensures.0
    (left_next _ (sym (doubles_are _ _ _ _) ∙ c.in_ok-plan.ensures.passes) (rw (p.1, p.2) (left_child _ c.in_err-check_children.ensures _)))))

pub finish-requires : goal.finish-requires
finish-requires c =
    let i = c.in_ok-most.ensures in
    (ready _ _ _ _ (over_header _ _ c.in_ok-header.ensures) ((ids_good _ _).0 i.0) c.in_ok-plan.ensures c.sorted-numbers.ensures, (ranges_good _ _).0 c.in_ok-check_children.ensures.0, i.1)

pub returns : goal.returns
unfolding checks
returns c =
    let children = c.in_ok-check_children.ensures in
    promised
    (left_next _ c.in_ok-header.ensures.1
    (left_next _ c.in_ok-most.ensures.0
    (left_next _ (sym (doubles_are _ _ _ _) ∙ c.in_ok-plan.ensures.passes) (left_next _ children.0 (left_next _ children.1 c.finish.ensures)))))
