-- `brackets::number_at` meets its contract. Assumes nothing.
use Rattle.std.proofs.Common.{sym, ◌∙◌}
use Rattle.brackets.proofs.Laws.{number_after}
use Rattle.brackets.proofs.number_at.Goals as goal

pub returns : goal.returns
returns c = c.some_digits.ensures ∙ sym (number_after c.after_plus.ensures)
