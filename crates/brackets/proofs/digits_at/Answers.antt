-- `brackets::digits_at` meets its contract. Assumes nothing.
use Rattle.std.proofs.Common.{◌≡◌, sym, ap, ◌∙◌, ◌+◌, ◌-◌, ◌*◌, arith}
use Rattle.brackets.specs.Brackets.{small}
use Rattle.brackets.proofs.Laws.{no_byte, digits_none, digits_more, digits_over, digits_end}
use Rattle.brackets.proofs.digits_at.Goals as goal

pub returns-then-not-is_ascii_digit : goal.returns-then-not-is_ascii_digit
returns-then-not-is_ascii_digit c =
    let l = c.loop-byte in
    sym (l.invariant.0 ∙ digits_none c.in-Byte.ensures l.value (sym c.is_ascii_digit.ensures.value ∙ c.if-not-is_ascii_digit.true))

pub returns-in_err-checked_mul : goal.returns-in_err-checked_mul
returns-in_err-checked_mul c =
    let l = c.loop-byte in
    let digit = sym c.is_ascii_digit.ensures.value ∙ c.if-not-is_ascii_digit.false in
    c.from_residual.ensures ∙ sym (l.invariant.0 ∙ digits_over c.in-Byte.ensures l.value digit (omega (arith, c.in_err-checked_mul.ensures)))

pub returns-in_err-value : goal.returns-in_err-value
returns-in_err-value c =
    let l = c.loop-byte in
    let digit = sym c.is_ascii_digit.ensures.value ∙ c.if-not-is_ascii_digit.false in
    let over = digits_over c.in-Byte.ensures l.value digit (omega (arith, c.in_ok-checked_mul.ensures, c.in_err-value.ensures)) in
    c.from_residual-in_err-value.ensures ∙ sym (l.invariant.0 ∙ over)

pub loop-byte-preserved : goal.loop-byte-preserved
loop-byte-preserved c =
    let l = c.loop-byte in
    let b = c.in-Byte.ensures in
    let digit = sym c.is_ascii_digit.ensures.value ∙ c.if-not-is_ascii_digit.false in
    let value : c.in_ok-value.value ≡ 10 * l.value + (c.in-Byte.byte - 48) = omega (arith, c.in_ok-checked_mul.ensures, c.in_ok-value.ensures) in
    (rw value (l.invariant.0 ∙ ap small (digits_more b l.value digit)), b.inside, omega (arith, c.in_ok-value.ensures))

pub returns : goal.returns
returns c =
    let l = c.loop-byte in
    let none = no_byte c.args.path.now l.at _ c.unit_at.ensures c.in_default.not-Byte in
    digits_end _ l.at l.value none l.invariant.2 ∙ sym l.invariant.0
