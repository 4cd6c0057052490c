-- `chars::begins_at` meets its contract: what the first byte asks for, against what is left. Assumes nothing.
use Rattle.rules.proofs.Prelude.{rules, arith, sym, ◌∙◌, ap, ◌≡◌}
use Rattle.leads.specs.declared.Lead.{Lead}
use Rattle.chars.proofs.Begins.{begins_end, begins_bad, begins_long, begins_short}
use Rattle.chars.proofs.begins_at.Statement.{statement}
use Rattle.chars.proofs.begins_at.Tie as tie

rest_is : {x y : Lead} → x ≡ y → x.rest ≡ y.rest
rest_is e = ap (λ (x : Lead). x.rest) e

pub begins_at_spec : {M : Type 1} → statement M
begins_at_spec =
    tie.close
    (tie.spec
    (λ c. let a = c.args in sym (begins_end a.at a.s.now c.if-s-at.true))  -- returns
    (λ c. search rules) (λ c κs. search rules) (λ c. search rules) (λ c. search rules) (λ c. search rules) (λ c. search rules)
    (λ c. search rules) (λ c. search rules) (λ c. search rules)
    (λ c. let a = c.args in
    sym (begins_long a.at a.s.now (omega arith) (sym c.classify.ensures ∙ c.in-Some.is) (omega (arith, rest_is c.in-Some.field-0-is))))  -- returns-2
    (λ c. search rules) (λ c κs. search rules)
    (λ c. let a = c.args in
    sym (begins_bad a.at a.s.now (omega arith) (sym c.classify.ensures ∙ c.in-None.is)))  -- returns-3
    (λ c. let a = c.args in
    (rw c.in-Some.field-0-is at c.tails.ensures)
    ∙ sym (begins_short a.at a.s.now (omega arith) (sym c.classify.ensures ∙ c.in-Some.is) (omega (arith, rest_is c.in-Some.field-0-is)))))  -- returns-4
