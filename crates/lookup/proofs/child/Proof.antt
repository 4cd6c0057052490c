-- `lookup::child` meets its contract: the part from the child's start to its end. Assumes nothing.
use borrow.Author.Rules.{rules}
use Rattle.lookup.proofs.child.Statement.{statement}
use Rattle.lookup.proofs.child.Tie as tie

pub child_spec : {M : Type 1} → statement M
child_spec =
    tie.close
    (tie.spec
    (λ c κs. search rules) (λ c. search rules) (λ c. search rules) (λ c. search rules)
    (λ c. let p = c.child_place-place.ensures in
    record { bytes = rw (← p.start_is, ← p.end_is); place = rw (← p.start_is) }))  -- returns
