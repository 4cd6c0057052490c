-- `eights::half` meets its contract: four bytes, one by one. Assumes nothing.
use native.Mathlib.Omega.{arith}
use borrow.Author.Rules.{rules}
use Rattle.eights.proofs.Words.{be_four}
use Rattle.eights.proofs.half.Statement.{statement}
use Rattle.eights.proofs.half.Tie as tie

pub half_spec : {M : Type 1} → statement M
half_spec =
    tie.close
    (tie.spec
    (λ c. search rules) (λ c κs. search rules) (λ c. search rules)
    (λ c. search rules) (λ c. search rules) (λ c κs. search rules) (λ c. search rules) (λ c. search rules)
    (λ c. search rules) (λ c. search rules) (λ c κs. search rules) (λ c. search rules) (λ c. search rules)
    (λ c. search rules) (λ c. search rules) (λ c κs. search rules) (λ c. search rules)
    (λ c. let a = c.args in (omega (arith, be_four a.s.now a.at), omega arith)))  -- returns
