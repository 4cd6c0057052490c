-- Bytes after the last end are ignored: where the names are good, more bytes after the run change neither that nor any name. Assumes nothing.
use Rattle.rules.proofs.Prelude.{◌≡◌, List, ◌++◌, ℕ, arith, length-append, pass}
use Rattle.part.proofs.Laws.{part_append}
use Rattle.given.specs.Given.{checks}
use Rattle.given.specs.Meaning.{GoodNames}
use Rattle.given.proofs.Means.{good}

module _ (run more ends : List ℕ) (h : GoodNames run ends) where
  pub good_appended : GoodNames (run ++ more) ends
  good_appended k q =
      let g = h k q in
      record { rises = g.rises; inside = simp length-append (omega (arith, g.inside)); is_text = rw (part_append run more _ _ g.rises g.inside) g.is_text }

  pub checks_appended : checks (run ++ more) ends ≡ pass
  checks_appended = (good (run ++ more) ends).1 good_appended
