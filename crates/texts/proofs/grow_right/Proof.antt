-- `texts::grow_right` meets its contract: a text that touches the range on its right makes it longer. Assumes nothing.
use Rattle.rules.proofs.Prelude.{arith, rules}
use Rattle.texts.proofs.Laws.{known_right}
use Rattle.texts.proofs.grow_right.Statement.{statement}
use Rattle.texts.proofs.grow_right.Tie as tie

pub grow_right_spec : {M : Type 1} → statement M
grow_right_spec =
    tie.close
    (tie.spec
    (λ c. search rules)  -- returns
    (λ c κs. search rules)  -- is-text-requires
    (λ c.
    let x = c.args in
    let pre = c.requires in
    known_right x.whole.now x.known pre.0 x.j (omega arith) pre.1 (c.is_text.ensures.if_so c.if-is_text.true))  -- returns-2
    (λ c. search rules))  -- returns-3
