-- `write::finish` meets its contract: the sizes, 10, 46, and the bytes. Assumes nothing.
use Rattle.std.proofs.lemmas.Result.{err_from_is_err_and}
use Rattle.rules.proofs.Prelude.{refl, ◌∙◌, arith}
use Rattle.dictionary.specs.Limits.{limit}
use Rattle.lay.proofs.Items.{items_names, lent_names}
use Rattle.write.proofs.Laws.{sums_small, length_is, layout_is, laid, names_long, too_long, no_room, finish_stop, finish_pass}
use Rattle.write.proofs.finish.Goals as goal

pub measure-requires : goal.measure-requires
measure-requires c = (lent_names _ _ c.requires.0, c.requires.1)

pub returns-in_err-sizes : goal.returns-in_err-sizes
returns-in_err-sizes c =
    let p = err_from_is_err_and c.from_residual.result c.from_residual.ensures.1 in
    finish_stop _ (too_long _ _ (names_long _ (rw (items_names _ _) at c.in_err-sizes.ensures))) (rw (p.1, p.2) refl)

pub overflow_add-region : goal.overflow_add-region
overflow_add-region c = omega (arith, sums_small (rw (items_names _ _) at c.in_ok-sizes.ensures) c.width_for-w.ensures)

pub overflow_add-region-2 : goal.overflow_add-region-2
overflow_add-region-2 c = omega (arith, sums_small (rw (items_names _ _) at c.in_ok-sizes.ensures) c.width_for-w.ensures)

pub overflow_mul-region : goal.overflow_mul-region
overflow_mul-region c = omega (arith, sums_small (rw (items_names _ _) at c.in_ok-sizes.ensures) c.width_for-w.ensures)

pub overflow_add-region-3 : goal.overflow_add-region-3
overflow_add-region-3 c = omega (arith, sums_small (rw (items_names _ _) at c.in_ok-sizes.ensures) c.width_for-w.ensures)

pub overflow_add-length : goal.overflow_add-length
overflow_add-length c = omega (arith, sums_small (rw (items_names _ _) at c.in_ok-sizes.ensures) c.width_for-w.ensures)

pub returns-then-limit-length : goal.returns-then-limit-length
unfolding limit
returns-then-limit-length c =
    let s = rw (items_names _ _) at c.in_ok-sizes.ensures in
    finish_stop _ (too_long _ _ (omega (arith, length_is s c.width_for-w.ensures))) refl

pub returns-then-free-length : goal.returns-then-free-length
unfolding limit
returns-then-free-length c =
    let n = length_is (rw (items_names _ _) at c.in_ok-sizes.ensures) c.width_for-w.ensures in
    finish_stop _ (no_room _ _ (omega (arith, n)) (omega (arith, n))) refl

pub write_all-requires : goal.write_all-requires
write_all-requires c =
    let s = rw (items_names _ _) at c.in_ok-sizes.ensures in
    let e = c.width_for-w.ensures in
    (c.requires.0, c.requires.1, laid s e c.args.room.now (omega (arith, length_is s e)))

pub returns : goal.returns
unfolding limit
returns c =
    let s = rw (items_names _ _) at c.in_ok-sizes.ensures in
    let e = c.width_for-w.ensures in
    let n = length_is s e in
    finish_pass (omega (arith, n)) (omega (arith, n)) s.count_is n (c.write_all.ensures ∙ rw (layout_is s e))
