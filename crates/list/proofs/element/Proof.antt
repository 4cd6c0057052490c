-- `list::element` meets its contract: the offsets of a checked list rise within its region. Assumes nothing.
use Rattle.rules.proofs.Prelude.{◌+◌, arith}
use Rattle.layout.proofs.Laws.{end_is}
use Rattle.list.proofs.Laws.{rising, inside}
use Rattle.list.proofs.element.Statement.{statement}
use Rattle.list.proofs.element.Tie as tie

pub element_spec : {M : Type 1} → statement M
element_spec =
    tie.close
    (tie.spec
    (λ c κs. (c.requires.0.few, c.requires.0.numbers, omega arith))  -- offset-at-requires
    (λ c. omega arith)  -- add-t7
    (λ c. omega arith)  -- add-offset-at
    (λ c κs. (c.requires.0.few, c.requires.0.numbers, omega arith))  -- offset-at-requires-2
    (λ c. omega arith)  -- add-t10
    (λ c. let a = c.args in
    let p = c.requires in
    let s = a.list.now in
    let up = rising a.w s p.0.passes a.k p.1 in
    let within = inside a.w s p.0.passes (a.k + 1) (omega arith) in
    let first_is = c.offset_at.ensures.0 in
    let next-is = c.offset_at-2.ensures.0 in
    let end = end_is a.w s in
    record { start_is = omega arith; end_is = omega arith; rises = omega arith; inside = omega arith }))  -- returns
