-- `names::compare` meets its contract: the first eight bytes decide, or those that `alike` finds, or the lengths. Assumes nothing.
use mathlib.Core.Path.{sym, ◌∙◌}
use native.Mathlib.Omega.{arith}
use borrow.Author.Rules.{rules}
use Rattle.eights.proofs.Words.{be_alike}
use Rattle.names.proofs.Words.{by_cmp, by_then, word_decides, end_decides}
use Rattle.names.specs.Order.{compare_of}
use lib.ListN.{length}
use Rattle.names.proofs.compare.Statement.{statement}
use Rattle.names.proofs.compare.Tie as tie

pub compare_spec : {M : Type 1} → statement M
compare_spec =
    tie.close
    (tie.spec
    (λ c κs. search rules) (λ c κs. search rules) (λ c. search rules) (λ c κs. search rules) (λ c κs. search rules) (λ c κs. tt)
    (λ c. let h = c in let a = h.args in
    let law = word_decides a.a.now a.b.now h.shared_slice_known-1.given h.shared_slice_known-2-1.given in
    c.cmp.ensures ∙ by_cmp _ _
    ∙ sym (law 0 c.word-p.result c.word-q.result (omega arith) (omega arith) (omega arith) (λ k p. absurd (omega arith)) (omega arith) (omega arith)))  -- returns-2
    (λ c κs. let h = c in let a = h.args in
    let law = be_alike a.a.now a.b.now h.shared_slice_known-1.given h.shared_slice_known-2-1.given in
    (law 0 8 (omega arith) (λ k p. absurd (omega arith)), omega arith, omega arith, omega arith))  -- alike-requires
    (λ c κs. search rules) (λ c κs. search rules) (λ c κs. tt) (λ c κs. tt) (λ c κs. tt)
    (λ c. let d = c in let h = d in let a = h.args in
    let words = word_decides a.a.now a.b.now h.shared_slice_known-1.given h.shared_slice_known-2-1.given in
    let ends = end_decides a.a.now a.b.now h.shared_slice_known-1.given h.shared_slice_known-2-1.given in
    c.then.ensures ∙ rw (c.cmp-2.ensures, c.cmp-3.ensures, by_cmp (length a.a.now) (length a.b.now))
    (by_then c.word.result c.word-2.result _ (compare_of a.a.now a.b.now)
    (λ n. words d.alike-i.result c.word.result c.word-2.result (omega arith) (omega arith) n d.alike-i.ensures.alike (omega arith) (omega arith))
    (λ e. ends d.alike-i.result (length a.a.now) (length a.b.now) (omega arith) (omega arith) d.min-shared.result (omega arith) d.alike-i.ensures (omega arith)))))  -- returns-3
