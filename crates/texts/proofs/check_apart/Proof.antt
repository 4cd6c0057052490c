-- `texts::check_apart` meets its contract: what is read is known. Assumes nothing.
use Rattle.rules.proofs.Prelude.{rules}
use Rattle.texts.proofs.Laws.{known_of}
use Rattle.texts.proofs.check_apart.Statement.{statement}
use Rattle.texts.proofs.check_apart.Tie as tie

pub check_apart_spec : {M : Type 1} → statement M
check_apart_spec =
    tie.close
    (tie.spec
    (λ c κs. search rules)  -- is-text-requires
    (λ c. let s = c in
    let x = s.args in
    let is_text = c.is_text.ensures.if_so c.if-is_text.true in
    (is_text, known_of x.whole.now x.i x.j s.requires.0 s.requires.1 is_text))  -- returns
    (λ c. c.is_text.ensures.if_not c.if-is_text.false))  -- returns-2
