-- `given::is_good` meets its contract: each test refuses what is not good. Assumes nothing.
use Rattle.rules.proofs.Prelude.{refl, Bool, true, false, List, ℕ, ◌≤◌, length, arith, rules}
use Rattle.part.specs.Part.{part}
use Rattle.texts.specs.Known.{Tells}
use Rattle.given.specs.Meaning.{SpanIs}
use Rattle.given.proofs.is_good.Statement.{statement}
use Rattle.given.proofs.is_good.Tie as tie

-- of bytes that do not fall and stay in the run, whether they are text decides
told : (run : List ℕ) (from to : ℕ) → from ≤ to → to ≤ length run → (r : Bool) → Tells (part run from to) r → SpanIs run from to r
told run from to p q true t = record { rises = p; inside = q; is_text = t.if_so refl }
told run from to p q false t = λ g. t.if_not refl g.is_text

pub is_good_spec : {M : Type 1} → statement M
is_good_spec =
    tie.close
    (tie.spec
    (λ c. λ g. omega (arith, g.rises))  -- returns
    (λ c. λ g. omega (arith, g.inside))  -- returns-2
    (λ c κs. search rules)  -- is-text-requires
    (λ c. let x = c.args in told x.run.now x.from x.to (omega arith) (omega arith) _ c.is_text.ensures))  -- returns-3
