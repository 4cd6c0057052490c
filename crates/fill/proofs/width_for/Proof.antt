-- `fill::width_for` meets its contract: that of the larger. Assumes nothing.
use Prim.Native.Nat.{max}
use Rattle.rules.proofs.Prelude.{◌≡◌, ◌∙◌, ap, arith, rules}
use Rattle.lay.specs.Bytes.{width_of}
use Rattle.fill.proofs.width_for.Statement.{statement}
use Rattle.fill.proofs.width_for.Tie as tie

pub width_for_spec : {M : Type 1} → statement M
width_for_spec =
    tie.close
    (tie.spec
    (λ c κs. search rules)  -- width-of-requires
    (λ c. let a = c.args in
    let e : a.sum ≡ max a.count a.sum = omega arith in
    c.width_of.ensures ∙ ap width_of e)  -- returns
    (λ c κs. search rules)  -- width-of-requires-2
    (λ c. let a = c.args in
    let e : a.count ≡ max a.count a.sum = omega arith in
    c.width_of-2.ensures ∙ ap width_of e))  -- returns-2
