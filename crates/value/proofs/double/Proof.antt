-- `value::double` meets its contract: the comparison tells a NaN's bits. Assumes nothing.
use lib.Ieee.{binary64}
use Rattle.value.proofs.Laws.{number, double_number, double_nan}
use Rattle.value.proofs.double.Statement.{statement}
use Rattle.value.proofs.double.Tie as tie

pub double_spec : {M : Type 1} → statement M
double_spec =
    tie.close
    (tie.spec
    (λ c. number binary64 c.args.n c.if-n-le9218868437227405312.true)  -- float-from-bits-t4
    (λ c. double_number _ c.if-n-le9218868437227405312.true)  -- returns
    (λ c. double_nan _ c.if-n-le9218868437227405312.false))  -- returns-2
