-- `doubles::is_seen` meets its contract: of names that are equal one was seen, and a name that is not is one more that differs. Assumes nothing.
use borrow.Author.Count.{below_more}
use Rattle.rules.proofs.Prelude.{◌≡◌, sym, ◌∙◌, arith}
use Rattle.source.specs.Names.{name_of}
use Rattle.doubles.proofs.Laws.{told_equal, told_other}
use Rattle.doubles.proofs.is_seen.Goals as goal

pub returns-then-is_eq : goal.returns-then-is_eq
returns-then-is_eq c =
    let e = rw c.compare.ensures at (sym c.is_eq.ensures ∙ c.if-is_eq.true) in
    record { number = c.loop-i.i; low = omega arith; high = omega arith; name_is = told_equal _ _ e }

pub loop-i-preserved : goal.loop-i-preserved
loop-i-preserved c =
    let a = c.args in
    let name = name_of a.run.now a.words.now a.kind in
    let e = rw c.compare.ensures at (sym c.is_eq.ensures ∙ c.if-is_eq.false) in
    below_more (λ p. name p ≡ name a.k → ⊥) c.loop-i.i c.loop-i.invariant (told_other _ _ e)
