-- `text::digit` meets its contract: range by range.
use Rattle.std.proofs.Common.{arith}
use Rattle.text.proofs.Laws.{decimal_digit, capital_digit, letter_digit, digit_low, digit_between, digit_among, digit_high}
use Rattle.text.proofs.digit.Goals as goal

pub returns-in-48-to-57 : goal.returns-in-48-to-57
returns-in-48-to-57 c = (decimal_digit c.args.b (omega arith) (omega arith), omega arith)

pub returns-in-65-to-70 : goal.returns-in-65-to-70
returns-in-65-to-70 c = (capital_digit c.args.b (omega arith) (omega arith), omega arith)

pub returns-in-97-to-102 : goal.returns-in-97-to-102
returns-in-97-to-102 c = (letter_digit c.args.b (omega arith) (omega arith), omega arith)

pub returns-in_default : goal.returns-in_default
returns-in_default c = (digit_low c.args.b (omega arith), omega arith)

pub returns-in_default-2 : goal.returns-in_default-2
returns-in_default-2 c = (digit_between c.args.b (omega arith) (omega arith), omega arith)

pub returns-in_default-3 : goal.returns-in_default-3
returns-in_default-3 c = (digit_among c.args.b (omega arith) (omega arith), omega arith)

pub returns-in_default-4 : goal.returns-in_default-4
returns-in_default-4 c = (digit_high c.args.b (omega arith), omega arith)
