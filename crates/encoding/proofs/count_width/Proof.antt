-- `encoding::count_width` meets its contract: one way for the bit to come out each. Assumes nothing.
use Rattle.rules.proofs.Prelude.{eq-eqb, ne_eqb}
use Rattle.encoding.specs.Encoding.{count_width}
use Rattle.encoding.proofs.count_width.Statement.{statement}
use Rattle.encoding.proofs.count_width.Tie as tie

pub count_width_spec : {M : Type 1} → statement M
unfolding count_width
count_width_spec =
    tie.close
    (tie.spec
    (λ c. rw (eq-eqb _ _ c.if-bit-eq1.true))  -- returns
    (λ c. rw (ne_eqb _ _ c.if-bit-eq1.false)))  -- returns-2
