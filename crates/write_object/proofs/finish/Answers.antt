-- `write_object::finish` meets its contract: the sizes, 20, 46, and the bytes. Assumes nothing.
use Rattle.std.proofs.lemmas.Result.{err_from_is_err_and}
use Rattle.rules.proofs.Prelude.{refl, ◌∙◌, arith}
use Rattle.dictionary.specs.Limits.{limit}
use Rattle.builder.proofs.Laws.{items_are, lent_pairs}
use Rattle.write_object.proofs.Laws.{children_long, count_is, widths_small, start_is, length_is, layout_is, laid, too_long, no_room, left_stop, left_pass}
use Rattle.write_object.proofs.finish.Goals as goal

pub measure-requires : goal.measure-requires
measure-requires c = (lent_pairs _ _ _ _ c.requires.0 _ c.requires.1, c.requires.0.sorted)

pub returns-in_err-sizes : goal.returns-in_err-sizes
returns-in_err-sizes c =
    let p = err_from_is_err_and c.from_residual.result c.from_residual.ensures.1 in
    let s = rw (items_are _ _ _ _ _) at c.in_err-sizes.ensures in
    left_stop _ (too_long _ _ (children_long _ _ _ c.requires.0.distinct s)) (rw (p.1, p.2) refl)

pub region_start-start-requires : goal.region_start-start-requires
region_start-start-requires c =
    let p = c.requires in
    let s = rw (items_are _ _ _ _ _) at c.in_ok-sizes.ensures in
    let w = widths_small _ _ _ p.0.distinct s p.2 c.width_of-wi.ensures c.width_of-wo.ensures in
    (w.1, w.3, w.4)

pub overflow_add-length : goal.overflow_add-length
unfolding limit
overflow_add-length c =
    let s = rw (items_are _ _ _ _ _) at c.in_ok-sizes.ensures in omega (arith, c.region_start-start.ensures, s.short)

pub returns-then-limit-length : goal.returns-then-limit-length
unfolding limit
returns-then-limit-length c =
    let p = c.requires in
    let s = rw (items_are _ _ _ _ _) at c.in_ok-sizes.ensures in
    let n = length_is _ _ _ p.0.distinct s p.2 c.width_of-wi.ensures c.width_of-wo.ensures c.region_start-start.ensures.0 in
    left_stop _ (too_long _ _ (omega (arith, n))) refl

pub returns-then-free-length : goal.returns-then-free-length
unfolding limit
returns-then-free-length c =
    let p = c.requires in
    let s = rw (items_are _ _ _ _ _) at c.in_ok-sizes.ensures in
    let n = length_is _ _ _ p.0.distinct s p.2 c.width_of-wi.ensures c.width_of-wo.ensures c.region_start-start.ensures.0 in
    left_stop _ (no_room _ _ (omega (arith, n)) (omega (arith, n))) refl

pub write_all-requires : goal.write_all-requires
write_all-requires c =
    let p = c.requires in
    let s = rw (items_are _ _ _ _ _) at c.in_ok-sizes.ensures in
    let wi = c.width_of-wi.ensures in
    let wo = c.width_of-wo.ensures in
    let v = c.region_start-start.ensures.0 in
    let n = length_is _ _ _ p.0.distinct s p.2 wi wo v in
    (p.0, p.1, laid _ _ _ p.0.distinct s p.2 wi wo c.args.room.now v (omega (arith, n)))

pub returns : goal.returns
unfolding limit
returns c =
    let p = c.requires in
    let s = rw (items_are _ _ _ _ _) at c.in_ok-sizes.ensures in
    let wi = c.width_of-wi.ensures in
    let wo = c.width_of-wo.ensures in
    let v = c.region_start-start.ensures.0 in
    let n = length_is _ _ _ p.0.distinct s p.2 wi wo v in
    let is = layout_is _ _ _ p.0.distinct s p.2 wi wo in
    left_pass (omega (arith, n)) (omega (arith, n)) (count_is _ _ _ p.0.distinct s p.2 wi wo) (v ∙ start_is _ _ _ p.0.distinct s p.2 wi wo) n
    (c.write_all.ensures ∙ rw is)
