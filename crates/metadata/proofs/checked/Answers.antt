-- `metadata::checked` meets its contract: the header's checks, then those of the region. Assumes nothing.
use Rattle.std.proofs.lemmas.Result.{err_from_is_err_and}
use Rattle.dictionary.proofs.Laws.{by_head}
use Rattle.metadata.proofs.checked.Goals as goal

pub returns-in_err-h : goal.returns-in_err-h
returns-in_err-h c =
    let p = err_from_is_err_and c.from_residual.result c.from_residual.ensures.1 in
    rw (p.1, p.2) (by_head _ c.in_err-h.ensures)
