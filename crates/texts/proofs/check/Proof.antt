-- `texts::check` meets its contract: the range as far as it grows, or the bytes themselves, tell. Assumes nothing.
use Rattle.rules.proofs.Prelude.{rules}
use Rattle.texts.proofs.check.Statement.{statement}
use Rattle.texts.proofs.check.Tie as tie

pub check_spec : {M : Type 1} → statement M
check_spec =
    tie.close
    (tie.spec
    (λ c κs. search rules)  -- check-apart-requires
    (λ c. search rules)  -- returns
    (λ c κs. search rules)  -- check-apart-requires-2
    (λ c. search rules)  -- returns-2
    (λ c κs. search rules)  -- grow-left-requires
    (λ c κs. search rules)  -- grow-right-requires
    (λ c κs. search rules)  -- covers-requires
    (λ c. (c.covers.ensures c.if-covers.true, c.grow_right-grown.ensures))  -- returns-3
    (λ c κs. search rules)  -- check-apart-requires-3
    (λ c. search rules))  -- returns-4
