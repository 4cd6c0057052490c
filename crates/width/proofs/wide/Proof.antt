-- `width::wide` meets its contract: a cast to a wider type keeps the number. Assumes nothing.
use mathlib.Core.Path.{refl}
use native.Mathlib.Omega.{arith}
use Rattle.width.proofs.wide.Statement.{statement}
use Rattle.width.proofs.wide.Tie as tie

pub wide_spec : {M : Type 1} → statement M
wide_spec = tie.close (tie.spec (λ c. (refl, omega arith)))
