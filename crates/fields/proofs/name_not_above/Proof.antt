-- `fields::name_not_above` meets its contract: the first field is none, and of the others the names tell. Assumes nothing.
use Rattle.rules.proofs.Prelude.{refl, Bool, true, false, not, ℕ, ◌<◌, arith, rules, Says, ◌<?◌, isn't, ◌and◌}
use Rattle.part.specs.Part.{part}
use Rattle.names.specs.Order.{below}
use Rattle.fields.proofs.name_not_above.Statement.{statement}
use Rattle.fields.proofs.name_not_above.Tie as tie

says_not : (k : ℕ) (rises : Bool) → 0 < k → Says (not rises) (0 <? k and isn't rises)
says_not k true p = λ _. refl
says_not k false p = (p, refl)

pub name_not_above_spec : {M : Type 1} → statement M
name_not_above_spec =
    tie.close
    (tie.spec
    (λ c. λ p. absurd (omega arith))  -- returns
    (λ c. search rules) (λ c. search rules) (λ c. search rules) (λ c. search rules) (λ c. search rules) (λ c. search rules)
    (λ c κs. search rules)
    (λ c. let a = c.args in
    rw c.is_below-rises.ensures (says_not a.k (below (part a.dict.now a.before.start a.before.end) (part a.dict.now a.name.start a.name.end)) (omega arith))))  -- returns-2
