-- `spots::end_at` meets its contract: the end that is there. Assumes nothing.
use Rattle.rules.proofs.Prelude.{◌-◌, arith, rules, length, lt-ltb, le-ltb}
use Rattle.spots.proofs.end_at.Statement.{statement}
use Rattle.spots.proofs.end_at.Tie as tie

pub end_at_spec : {M : Type 1} → statement M
end_at_spec =
    tie.close
    (tie.spec
    (λ c. search rules) (λ c. search rules)
    (λ c. omega (arith, c.shared_slice_known-1.given c.args.j))  -- cast-result
    (λ c. rw (lt-ltb _ _ c.if-j-ends.true))  -- returns
    (λ c. omega (arith, c.requires)) (λ c. search rules)
    (λ c. omega (arith, c.requires))  -- shared-slice-read-result-2
    (λ c. omega (arith, c.shared_slice_known-2-1.given (length c.args.ends.now - 1)))  -- cast-result-2
    (λ c. rw (le-ltb _ _ c.if-j-ends.false)))  -- returns-2
