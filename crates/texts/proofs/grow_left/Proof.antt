-- `texts::grow_left` meets its contract: a text that touches the range on its left makes it longer. Assumes nothing.
use Rattle.rules.proofs.Prelude.{arith, rules}
use Rattle.texts.proofs.Laws.{known_left}
use Rattle.texts.proofs.grow_left.Statement.{statement}
use Rattle.texts.proofs.grow_left.Tie as tie

pub grow_left_spec : {M : Type 1} → statement M
grow_left_spec =
    tie.close
    (tie.spec
    (λ c. search rules)  -- returns
    (λ c κs. search rules)  -- is-text-requires
    (λ c.
    let x = c.args in
    known_left x.whole.now x.known c.requires x.i (omega arith) (c.is_text.ensures.if_so c.if-is_text.true))  -- returns-2
    (λ c. search rules))  -- returns-3
