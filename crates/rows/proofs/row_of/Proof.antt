-- `rows::row_of` meets its contract: of a field that was found, its numbers, which fit 32 bits. Assumes nothing.
use Rattle.rules.proofs.Prelude.{ap, arith, rules}
use Rattle.names.specs.Search.Sought.{here}
use Rattle.width.specs.Limits.{u32_max}
use Rattle.layer.proofs.Laws.{count_below}
use Rattle.lookup.specs.Steps.{sought_of}
use Rattle.rows.specs.Steps.{InLayer}
use Rattle.rows.proofs.row_of.Statement.{statement}
use Rattle.rows.proofs.row_of.Tie as tie

-- the field that was found, and its child in the object
inside : (c : tie.In-Some) → let s = c in InLayer s.args.object.now (here c.in-Some.k)
inside c = rw (ap sought_of c.in-Some.is) at c.requires.1

pub row_of_spec : {M : Type 1} → statement M
unfolding u32_max
row_of_spec =
    tie.close
    (tie.spec
    (λ c. search rules) (λ c. search rules)
    (λ c κs. let i = inside c in (c.requires.0, i.0, i.1))  -- field-place-requires
    (λ c. omega (arith, (inside c.before).0, count_below c.args.object.now))  -- cast-t7
    (λ c κs. (c.requires.0, (inside c.before).0))  -- id-at-requires
    (λ c. search rules)
    (λ c. omega (arith, (inside c.before.before.before).1))  -- cast-t10
    (λ c. omega (arith, (inside c.before.before.before.before).1))  -- cast-t11
    (λ c. rw c.in-None.is)  -- returns
    (λ c. let place = c.field_place-place.ensures in
    rw (c.in-Some.is, ← place.0, ← place.1, ← c.id_at.ensures.0)))  -- returns-2
