-- `texts::covers` meets its contract: what lies in the range and cuts no character of it is a text. Assumes nothing.
use Rattle.rules.proofs.Prelude.{arith, rules, false_true}
use Rattle.texts.proofs.Laws.{text_within}
use Rattle.texts.proofs.covers.Statement.{statement}
use Rattle.texts.proofs.covers.Tie as tie

pub covers_spec : {M : Type 1} → statement M
covers_spec =
    tie.close
    (tie.spec
    (λ c e. false_true e)  -- returns
    (λ c e. false_true e)  -- returns-2
    (λ c κs. search rules)  -- starts-at-requires
    (λ c e. false_true e)  -- returns-3
    (λ c κs. search rules)  -- starts-at-requires-2
    (λ c e.
    let x = c.args in
    let pre = c.requires in
    text_within x.whole.now x.known pre.0 x.i x.j (omega arith) pre.1 (omega arith)
    (c.starts_at.ensures c.if-not-starts_at.false) (c.starts_at-2.ensures e)))  -- returns-4
