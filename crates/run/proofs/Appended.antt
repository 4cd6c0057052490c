-- Bytes after the last end are ignored: where the ends are good, more bytes after the run change neither that nor any name. Assumes nothing.
use Rattle.rules.proofs.Prelude.{◌≡◌, List, ◌++◌, ℕ, ◌<◌, arith, length, length-append, pass}
use Rattle.part.proofs.Laws.{part_append}
use Rattle.run.specs.Run.{name, checks}
use Rattle.run.specs.Meaning.{GoodEnds}
use Rattle.run.proofs.Means.{good}

module _ (run more ends : List ℕ) (h : GoodEnds run ends) where
  pub good_appended : GoodEnds (run ++ more) ends
  good_appended k q = let g = h k q in record { rises = g.rises; inside = simp length-append (omega (arith, g.inside)) }

  pub checks_appended : checks (run ++ more) ends ≡ pass
  checks_appended = (good (run ++ more) ends).1 good_appended

  pub name_appended : (k : ℕ) → k < length ends → name (run ++ more) ends k ≡ name run ends k
  unfolding name
  name_appended k q = let g = h k q in part_append run more _ _ g.rises g.inside
