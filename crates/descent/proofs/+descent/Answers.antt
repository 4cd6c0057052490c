-- `descent::check_value` and the two functions that it calls and that call it meet their contracts: what is found of a value is what the
-- definition says of it. Assumes nothing.
use Rattle.rules.proofs.Prelude.{◌≡◌, refl, arith}
use Rattle.std.proofs.lemmas.Result.{err_from_is_err_and}
use Rattle.part.specs.Part.{part}
use Rattle.layout.specs.Layout.{count as count_of}
use Rattle.nodes.proofs.Laws.{object_deep, list_deep}
use Rattle.nodes.proofs.Marks.{remembers_put}
use Rattle.nodes.proofs.Steps.{small_good, before_more, all_good, first_bad, head_is, too_deep_law}
use Rattle.descent.proofs.+descent.Goals as goal

pub check_children-loop-k-preserved-then-is_small : goal.check_children-loop-k-preserved-then-is_small
check_children-loop-k-preserved-then-is_small t c =
    let x = c.args in
    let l = c.loop-k in
    let child = c.child_at-child in
    let good = small_good x.over.now.value.now child.result.start child.result.end x.over.now.dict.now (c.if-is_small.ensures refl) in (
      l.invariant.0,
      before_more x.over.now.dict.now x.over.now.value.now x.at.start x.at.end x.c c.requires.3 l.height 0 l.height l.k child.result child.ensures
          (omega arith) (omega arith) l.invariant.1 good,
      l.invariant.2,
      l.invariant.3,
    )

pub check_children-returns-in_err-good : goal.check_children-returns-in_err-good
check_children-returns-in_err-good t c =
    let x = c.args in
    let o = c.requires.3 in
    let l = c.loop-k in
    let child = c.child_at-child in
    let told = err_from_is_err_and c.from_residual.result c.from_residual.ensures.1 in
    rw (told.1, told.2)
    (first_bad x.over.now.dict.now x.over.now.value.now x.at.start x.at.end x.c o x.left l.height l.k child.result child.ensures (omega (arith, o.stands.numbers.count_is))
    l.invariant.0 l.invariant.1 c.in_err-good.ensures)

pub check_children-loop-k-preserved : goal.check_children-loop-k-preserved
check_children-loop-k-preserved t c =
    let x = c.args in
    let l = c.loop-k in
    let child = c.child_at-child in
    let good = c.in_ok-good.ensures in
    let most = c.larger-height.ensures in (
      most.2 x.left l.invariant.0 good.0,
      before_more x.over.now.dict.now x.over.now.value.now x.at.start x.at.end x.c c.requires.3 l.height c.in_ok-good.good.height c.larger-height.result l.k
          child.result child.ensures most.0 most.1 l.invariant.1 good.1,
      good.2,
      omega arith,
    )

pub check_children-returns : goal.check_children-returns
check_children-returns t c =
    let x = c.args in
    let o = c.requires.3 in
    let l = c.loop-k in
    let all : l.k ≡ count_of x.c.widths (part x.over.now.value.now x.at.start x.at.end) = omega (arith, o.stands.numbers.count_is) in
    (omega arith, all_good x.over.now.dict.now x.over.now.value.now x.at.start x.at.end x.c o l.height (rw all at l.invariant.1), l.invariant.2)

pub check_new-returns-in_err-below-in-Object : goal.check_new-returns-in_err-below-in-Object
check_new-returns-in_err-below-in-Object t c =
    let x = c.args in
    let v = part x.over.now.value.now x.at.start x.at.end in
    let says = head_is v c.header_of.ensures.says c.first_byte.ensures c.in-Object.is in
    let told = err_from_is_err_and c.from_residual.result c.from_residual.ensures.1 in
    rw (told.1, told.2) (too_deep_law x.over.now.dict.now v x.at.start x.left _ c.in_err-below-in-Object.ensures (object_deep x.over.now.dict.now v says))

pub check_new-returns-in_err-below-in-List : goal.check_new-returns-in_err-below-in-List
check_new-returns-in_err-below-in-List t c =
    let x = c.args in
    let v = part x.over.now.value.now x.at.start x.at.end in
    let says = head_is v c.header_of.ensures.says c.first_byte.ensures c.in-List.is in
    let told = err_from_is_err_and c.from_residual-in_err-below-in-List.result c.from_residual-in_err-below-in-List.ensures.1 in
    rw (told.1, told.2) (too_deep_law x.over.now.dict.now v x.at.start x.left _ c.in_err-below-in-List.ensures (list_deep x.over.now.dict.now v says))

pub check_new-returns-in_err-c-in-List : goal.check_new-returns-in_err-c-in-List
check_new-returns-in_err-c-in-List t c =
    let told = err_from_is_err_and c.from_residual-in_err-c-in-List.result c.from_residual-in_err-c-in-List.ensures.1 in
    let refused = c.in_err-c-in-List.ensures c.args.over.now.dict.now in
    rw (told.1, told.2, c.in_ok-below-in-List.ensures) (refused.1 c.in_ok-below-in-List.below)

pub check_new-returns-in-Primitive : goal.check_new-returns-in-Primitive
check_new-returns-in-Primitive t c =
    let x = c.args in
    let says = head_is (part x.over.now.value.now x.at.start x.at.end) c.header_of.ensures.says c.first_byte.ensures c.in-Primitive.is in
    c.check_leaf.ensures x.over.now.dict.now x.marks.now x.left (rw says tt) c.requires.2.marked

pub check_new-returns-in-ShortString : goal.check_new-returns-in-ShortString
check_new-returns-in-ShortString t c =
    let x = c.args in
    let says = head_is (part x.over.now.value.now x.at.start x.at.end) c.header_of.ensures.says c.first_byte.ensures c.in-ShortString.is in
    c.check_leaf-in-ShortString.ensures x.over.now.dict.now x.marks.now x.left (rw says tt) c.requires.2.marked

pub check_value-returns : goal.check_value-returns
check_value-returns t c =
    let x = c.args in
    let p = c.requires.0 in
    let good = c.in_ok-good.ensures in (
      good.0,
      good.1,
      remembers_put x.over.now.dict.now x.over.now.value.now x.at.start x.at.end c.in_ok-good.good.height good.2 p.rises p.inside good.1 c.put.ensures,
    )
