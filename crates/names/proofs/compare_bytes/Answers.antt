-- `names::compare_bytes` meets its contract: what is left of both compares as the whole does. Assumes nothing.
use Rattle.std.proofs.Common.{sym, ◌∙◌, arith}
use native.Mathlib.Numerals.{add-one}
use Rattle.names.proofs.Words.{by_cmp, by_apart, by_same, compare_first, compare_lengths}
use Rattle.names.proofs.compare_bytes.Goals as goal

pub returns-then-x-y : goal.returns-then-x-y
returns-then-x-y c =
    let l = c.loop-i in
    let first = compare_first c.args.a.now c.args.b.now l.i (omega arith) (omega arith) in
    c.cmp.ensures ∙ by_cmp _ _ ∙ sym (l.invariant ∙ first ∙ by_apart _ _ _ (λ e. omega arith))

pub loop-i-preserved : goal.loop-i-preserved
loop-i-preserved c =
    let l = c.loop-i in
    let first = compare_first c.args.a.now c.args.b.now l.i (omega arith) (omega arith) in
    rw (add-one l.i) (l.invariant ∙ first ∙ by_same _ _ _ (omega arith))

pub returns : goal.returns
returns c =
    let l = c.loop-i in
    c.cmp-2.ensures ∙ by_cmp _ _ ∙ sym (l.invariant ∙ compare_lengths c.args.a.now c.args.b.now l.i (omega arith))
