-- `eights::raw` meets its contract: four bytes, and above these four more. Assumes nothing.
use native.Mathlib.Omega.{arith}
use borrow.Author.Rules.{rules}
use Rattle.eights.proofs.raw.Statement.{statement}
use Rattle.eights.proofs.raw.Tie as tie

pub raw_spec : {M : Type 1} → statement M
raw_spec =
    tie.close
    (tie.spec
    (λ c κs. search rules) (λ c. search rules) (λ c κs. search rules) (λ c. search rules) (λ c. search rules)
    (λ c. record { is = omega arith; fits = omega arith }))  -- returns
