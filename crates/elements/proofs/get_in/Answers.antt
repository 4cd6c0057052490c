-- `elements::get_in` meets its contract: the list's refusal, or its element where it has so many. Assumes nothing.
use Rattle.rules.proofs.Prelude.{sym, arith}
use Rattle.layout.proofs.Results.{raised}
use Rattle.elements.proofs.Laws.{by_list, is_absent, found_so}
use Rattle.elements.proofs.get_in.Goals as goal

pub element-span-requires : goal.element-span-requires
element-span-requires c = let l = c.in_ok-l.ensures in (l, omega (arith, l.numbers.count_is))

pub returns-in_err-l : goal.returns-in_err-l
returns-in_err-l c = rw (raised _ c.from_residual.ensures.1) (sym (by_list _ _ _ c.requires.1 c.in_err-l.ensures))

pub returns-then-index-l : goal.returns-then-index-l
returns-then-index-l c =
    let l = c.in_ok-l.ensures in
    let a = c.args in
    found_so a.list.now a.index a.w c.requires.1 l.passes (omega (arith, l.numbers.count_is)) c.element-span.ensures

pub returns : goal.returns
returns c = let l = c.in_ok-l.ensures in sym (is_absent _ _ _ c.requires.1 l.passes (omega (arith, l.numbers.count_is)))
