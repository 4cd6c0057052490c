-- `listing::own_length` meets its contract: the child is the part from its start to the trimmed end. Assumes nothing.
use Rattle.rules.proofs.Prelude.{◌∙◌, ap, arith, rules, ◌+◌, ◌≤◌}
use Rattle.width.specs.Limits.{u32_max}
use Rattle.lengths.specs.Lengths.{own_length}
use Rattle.layer.proofs.Laws.{end_is}
use Rattle.listing.proofs.Laws.{child_is}
use Rattle.listing.proofs.own_length.Statement.{statement}
use Rattle.listing.proofs.own_length.Tie as tie

-- a child that starts in the region starts before the trimmed end
inside : (c : tie.After-offset_at) → let l = c.args.l in l.start + c.offset_at.result ≤ l.end
inside c = omega (arith, c.requires.2, end_is c.args.object.now)

pub own_length_spec : {M : Type 1} → statement M
unfolding u32_max
own_length_spec =
    tie.close
    (tie.spec
    (λ c κs. omega arith)  -- offset-at-requires
    (λ c. search rules)  -- add-start
    (λ c. omega (arith, inside c.before))  -- sub-own-length
    (λ c. omega (arith, inside c.before))  -- part-own-length-start
    (λ c. search rules)  -- part-own-length-end
    (λ c κs. search rules)  -- own-length-requires
    (λ c. let a = c.args in
    let l = c.requires.0 in
    c.own_length.ensures ∙ ap own_length (child_is a.object.now a.k _ a.l.end (omega arith) l.end_is)))  -- returns
