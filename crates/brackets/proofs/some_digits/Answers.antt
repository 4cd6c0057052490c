-- `brackets::some_digits` meets its contract. Assumes nothing.
use Rattle.std.proofs.Common.{sym, ap, ◌∙◌}
use Rattle.brackets.specs.Brackets.{small}
use Rattle.brackets.proofs.Laws.{none_held, some_none, some_byte}
use Rattle.brackets.proofs.some_digits.Goals as goal

pub returns-in-Never : goal.returns-in-Never
returns-in-Never c =
    let s = c.args.path.now in
    let at = c.args.from in
    sym (some_none s at (none_held s at c.unit_at.ensures c.in-Never.is))

pub returns-in-Byte : goal.returns-in-Byte
returns-in-Byte c = c.digits_at.ensures ∙ sym (ap small (some_byte c.in-Byte.ensures))
