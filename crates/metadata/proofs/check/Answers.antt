-- `metadata::check` meets its contract: the numbers of the checked header. Assumes nothing.
use Rattle.std.proofs.lemmas.Result.{err_from_is_err_and}
use Rattle.rules.proofs.Prelude.{sym, refused}
use Rattle.dictionary.specs.Dictionary.{verdict_within}
use Rattle.metadata.proofs.Accepts.{accepts}
use Rattle.metadata.proofs.Says.{checked_good}
use Rattle.metadata.proofs.check.Goals as goal

pub returns-in_err-header : goal.returns-in_err-header
unfolding verdict_within
returns-in_err-header c =
    let p = err_from_is_err_and c.from_residual.result c.from_residual.ensures.1 in
    rw (p.1, p.2) (sym (refused _ c.in_err-header.ensures))

pub returns : goal.returns
returns c = sym ((accepts _ _ _).1 (checked_good _ _ c.in_ok-header.ensures))
