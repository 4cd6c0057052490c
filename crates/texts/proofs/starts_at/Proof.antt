-- `texts::starts_at` meets its contract: a byte below 80 or above BF, or the end. Assumes nothing.
use Rattle.rules.proofs.Prelude.{arith, ltb-true, get_or}
use Rattle.texts.proofs.starts_at.Statement.{statement}
use Rattle.texts.proofs.starts_at.Tie as tie

pub starts_at_spec : {M : Type 1} → statement M
starts_at_spec =
    tie.close
    (tie.spec
    (λ c _ inside cont. omega arith)  -- returns
    (λ c. omega arith)  -- shared-slice-read-if2
    (λ c _ inside cont. omega arith)  -- returns-2
    (λ c. omega arith)  -- shared-slice-read-result
    (λ c above inside cont. let x = c.args in let z = ltb-true _ (get_or x.whole.now x.i 0) above in omega arith))  -- returns-3
