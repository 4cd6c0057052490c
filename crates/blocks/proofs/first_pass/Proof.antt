-- `blocks::first_pass` meets its contract: plain bytes are right, and others where none is wrong. Assumes nothing.
use mathlib.Core.Path.{sym, ◌∙◌}
use mathlib.Core.Bool.{◌||◌}
use borrow.Author.Rules.{rules}
use borrow.Author.Tests.{not-true}
use Rattle.rules.proofs.Laws.{neither}
use Rattle.blocks.proofs.Local.{rights_three, rights_start}
use Rattle.blocks.proofs.first_pass.Statement.{statement}
use Rattle.blocks.proofs.first_pass.Tie as tie

pub first_pass_spec : {M : Type 1} → statement M
first_pass_spec =
    tie.close
    (tie.spec
    (λ c. λ e. let k = c in rights_start k.args.s.now k.args.top k.requires.1 c.if-top-lt128.true)  -- returns
    (λ c. search rules) (λ c κs. search rules) (λ c. search rules) (λ c. search rules) (λ c κs. search rules) (λ c. search rules) (λ c. search rules)
    (λ c. search rules) (λ c κs. search rules)
    (λ c. λ e.
    let two = c in
    let one = two in
    let u = neither (one.wrong.result || two.wrong-2.result) c.wrong-3.result (not-true _ e) in
    let v = neither one.wrong.result two.wrong-2.result u.0 in
    rights_three one.args.s.now (sym one.wrong.ensures ∙ v.0) (sym two.wrong-2.ensures ∙ v.1)
    (sym c.wrong-3.ensures ∙ u.1)))  -- returns-2
