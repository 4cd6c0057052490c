-- `lookup::get` meets its contract: the dictionary's refusal, or the lookup over it. Assumes nothing.
use Rattle.rules.proofs.Prelude.{sym, refused}
use Rattle.layout.proofs.Results.{raised}
use Rattle.layer.proofs.Laws.{by_dictionary}
use Rattle.lookup.specs.ByName.{lookup_within}
use Rattle.lookup.proofs.get.Goals as goal

pub returns-in_err-h : goal.returns-in_err-h
unfolding lookup_within
returns-in_err-h c = rw (raised _ c.from_residual.ensures.1) (sym (refused _ (by_dictionary _ _ c.in_err-h.ensures)))
