-- `lengths::within` meets its contract: each refusal is the first row that holds. The limit is opened here. Assumes nothing.
use Rattle.rules.proofs.Prelude.{arith, first_at, first_pass}
use Rattle.width.specs.Limits.{u32_max}
use Rattle.lengths.specs.Lengths.{end_rules, case_of}
use Rattle.lengths.proofs.within.Statement.{statement}
use Rattle.lengths.proofs.within.Tie as tie

pub within_spec : {M : Type 1} → statement M
unfolding u32_max case_of
within_spec =
    tie.close
    (tie.spec
    (λ c. let a = c.args in rw (first_at 0 (end_rules a.len a.n) (omega arith)))  -- returns
    (λ c. let a = c.args in rw (first_at 1 (end_rules a.len a.n) (omega arith)))  -- returns-2
    (λ c. let a = c.args in rw (first_pass (end_rules a.len a.n) (omega arith))))  -- returns-3
