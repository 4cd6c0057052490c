-- `text::number` meets its contract: what is left of the digits decides as the whole does. Assumes nothing.
use Rattle.std.proofs.Common.{sym, ◌∙◌, ◌+◌, ◌*◌, ◌<◌, get_or, arith}
use borrow.Author.Tests.{lt-ltb}
use Rattle.text.specs.Text.{digit_of}
use Rattle.text.proofs.Laws.{no_digits, some_digits_law, decimal_end, decimal_stop, decimal_more, too_large}
use Rattle.text.proofs.number.Goals as goal

pub returns-then-text-eq0 : goal.returns-then-text-eq0
returns-then-text-eq0 c = sym (no_digits _ c.if-text-eq0.true)

pub loop-b-init : goal.loop-b-init
loop-b-init c = (some_digits_law _ (omega arith), omega arith)

pub returns-then-d-gt9 : goal.returns-then-d-gt9
returns-then-d-gt9 c =
    let l = c.loop-b in
    rw (decimal_stop l.value c.args.text.now l.b-index (omega arith) (omega arith)) at l.invariant.0

pub returns-then-value-gt4294967295 : goal.returns-then-value-gt4294967295
returns-then-value-gt4294967295 c =
    let l = c.loop-b in
    let s = c.args.text.now in
    let more = decimal_more l.value s l.b-index (omega arith) (omega arith) in
    sym (too_large _ (l.value * 10 + digit_of (get_or s l.b-index 0)) (omega arith)) ∙ rw more at l.invariant.0

pub loop-b-preserved : goal.loop-b-preserved
loop-b-preserved c =
    let l = c.loop-b in
    let more = decimal_more l.value c.args.text.now l.b-index (omega arith) (omega arith) in
    (rw (c.wide-d.ensures.0, c.digit.ensures.0) (rw more at l.invariant.0), omega arith)

pub returns : goal.returns
returns c =
    let l = c.loop-b in
    let fits : l.value < 4294967296 = omega arith in
    rw (decimal_end l.value c.args.text.now l.b-index (omega arith), lt-ltb _ _ fits) at l.invariant.0
