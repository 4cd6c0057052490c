-- `blocks::passes` meets its contract: plain bytes are right, and others where none is wrong. Assumes nothing.
use native.Mathlib.Omega.{arith}
use borrow.Author.Rules.{rules}
use borrow.Author.Tests.{not-true}
use Rattle.blocks.proofs.Local.{rights_plain}
use Rattle.blocks.proofs.passes.Statement.{statement}
use Rattle.blocks.proofs.passes.Tie as tie

pub passes_spec : {M : Type 1} → statement M
passes_spec =
    tie.close
    (tie.spec
    (λ c. λ e. let k = c in let a = k.args in
    rights_plain a.s.now a.from a.count a.most k.requires.1 (omega arith))  -- returns
    (λ c κs. search rules)
    (λ c. λ e. c.wrongs.ensures (not-true c.wrongs.result e)))  -- returns-2
