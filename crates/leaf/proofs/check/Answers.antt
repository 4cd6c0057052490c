-- `leaf::check` meets its contract: its own length, and then its text. Assumes nothing.
use Rattle.rules.proofs.Prelude.{sym}
use Rattle.std.proofs.lemmas.Result.{err_from_is_err_and}
use Rattle.leaf.proofs.Laws.{no_length}
use Rattle.leaf.proofs.check.Goals as goal

pub returns-in_err-n : goal.returns-in_err-n
returns-in_err-n c =
    let told = err_from_is_err_and c.from_residual.result c.from_residual.ensures.1 in
    rw (told.1, told.2) (no_length _ _ (sym c.in_err-n.ensures))
