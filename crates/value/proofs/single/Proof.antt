-- `value::single` meets its contract: the comparison tells a NaN's bits. Assumes nothing.
use native.Mathlib.Omega.{arith}
use lib.Ieee.{binary32}
use Rattle.value.proofs.Laws.{number, single_number, single_nan}
use Rattle.value.proofs.single.Statement.{statement}
use Rattle.value.proofs.single.Tie as tie

pub single_spec : {M : Type 1} → statement M
single_spec =
    tie.close
    (tie.spec
    (λ c. number binary32 c.args.n (omega arith))  -- float-from-bits-t4
    (λ c. single_number _ (omega arith))  -- returns
    (λ c. single_nan _ (omega arith)))  -- returns-2
