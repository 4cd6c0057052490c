-- `brackets::unit_at` meets its contract, a law for each return. Assumes nothing.
use Rattle.rules.proofs.Prelude.{arith, rules}
use Rattle.brackets.proofs.Laws.{unit_end, unit_close, unit_cut, unit_plain, unit_taken}
use Rattle.brackets.proofs.unit_at.Statement.{statement}
use Rattle.brackets.proofs.unit_at.Tie as tie

pub unit_at_spec : {M : Type 1} → statement M
unit_at_spec =
    tie.close
    (tie.spec
    (λ c. let a = c.args in unit_end a.path.now a.at (omega arith))  -- returns
    (λ c. search rules)  -- shared-slice-read-b
    (λ c. let a = c.args in
    let r = unit_close a.path.now a.at (omega arith) (omega arith) in
    (r.0, r.1, omega arith))  -- returns-2
    (λ c. let a = c.args in unit_plain a.path.now a.at (omega arith) (λ e. omega arith) (λ e. omega arith))  -- returns-3
    (λ c. search rules)  -- add-if4
    (λ c. let a = c.args in unit_cut a.path.now a.at (omega arith) (omega arith) (omega arith))  -- returns-4
    (λ c. search rules)  -- add-c
    (λ c. search rules)  -- shared-slice-read-c
    (λ c. let a = c.args in unit_taken a.path.now a.at (omega arith) (omega arith) (omega arith)))  -- returns-5
