-- `part::first_byte` meets its contract: the part's first byte, or none. Assumes nothing.
use mathlib.Core.Path.{sym}
use native.Mathlib.Omega.{arith}
use Rattle.part.proofs.Laws.{part_first, no_byte}
use Rattle.part.proofs.first_byte.Statement.{statement}
use Rattle.part.proofs.first_byte.Tie as tie

pub first_byte_spec : {M : Type 1} → statement M
first_byte_spec =
    tie.close
    (tie.spec
    (λ c. omega (arith, c.requires))  -- shared-slice-read-result
    (λ c. let x = c.args in sym (part_first x.whole.now x.a x.e (omega arith)))  -- returns
    (λ c. let x = c.args in no_byte x.whole.now x.a x.e (omega (arith, c.requires))))  -- returns-2
