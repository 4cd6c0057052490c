-- `bits::of_truth` meets its contract. Assumes nothing.
use Rattle.rules.proofs.Prelude.{rules}
use Rattle.bits.proofs.of_truth.Statement.{statement}
use Rattle.bits.proofs.of_truth.Tie as tie

pub of_truth_spec : {M : Type 1} → statement M
of_truth_spec =
    tie.close
    (tie.spec
    (λ c κs. search rules)  -- answer-requires
    (λ c. rw c.if-b.true c.answer.ensures)  -- returns
    (λ c κs. search rules)  -- answer-requires-2
    (λ c. rw c.if-b.false c.answer-2.ensures))  -- returns-2
