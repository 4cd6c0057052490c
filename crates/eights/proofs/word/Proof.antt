-- `eights::word` meets its contract: eight bytes are twice four. Assumes nothing.
use native.Mathlib.Omega.{arith}
use borrow.Author.Rules.{rules}
use Rattle.eights.proofs.Words.{be_eight}
use Rattle.eights.proofs.word.Statement.{statement}
use Rattle.eights.proofs.word.Tie as tie

pub word_spec : {M : Type 1} → statement M
word_spec =
    tie.close
    (tie.spec
    (λ c κs. search rules) (λ c. search rules) (λ c κs. search rules) (λ c. search rules) (λ c. search rules)
    (λ c. let a = c.args in omega (arith, be_eight a.s.now a.at)))  -- returns
