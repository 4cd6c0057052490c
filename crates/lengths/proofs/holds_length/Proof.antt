-- `lengths::holds_length` meets its contract: two types do. Assumes nothing.
use Rattle.rules.proofs.Prelude.{eq-eqb, ne_eqb}
use Rattle.lengths.specs.Lengths.{holds_length}
use Rattle.lengths.proofs.holds_length.Statement.{statement}
use Rattle.lengths.proofs.holds_length.Tie as tie

pub holds_length_spec : {M : Type 1} → statement M
unfolding holds_length
holds_length_spec =
    tie.close
    (tie.spec
    (λ c. rw (eq-eqb _ _ c.if-t-eq15.true))  -- returns
    (λ c. rw (ne_eqb _ _ c.if-t-eq15.false)))  -- returns-2
