-- `names::is_below` meets its contract: what decides is what decides in `compare`. Assumes nothing.
use native.Mathlib.Omega.{arith}
use borrow.Author.Rules.{rules}
use lib.ListN.{length}
use Rattle.eights.proofs.Words.{be_alike}
use Rattle.names.specs.Order.{below}
use Rattle.names.proofs.Words.{below_by, word_decides, end_decides}
use Rattle.names.proofs.is_below.Statement.{statement}
use Rattle.names.proofs.is_below.Tie as tie

pub is_below_spec : {M : Type 1} → statement M
unfolding below
is_below_spec =
    tie.close
    (tie.spec
    (λ c κs. search rules) (λ c κs. search rules) (λ c κs. tt)
    (λ c. rw (← c.compare_bytes.ensures) (search rules))  -- returns
    (λ c κs. search rules) (λ c κs. search rules)
    (λ c. let h = c in let a = h.args in
    let law = word_decides a.a.now a.b.now h.shared_slice_known-1.given h.shared_slice_known-2-1.given in
    below_by c.word-p.result c.word-q.result
    (law 0 _ _ (omega arith) (omega arith) (omega arith) (λ k p. absurd (omega arith)) (omega arith) (omega arith)))  -- returns-2
    (λ c κs. let h = c in let a = h.args in
    let law = be_alike a.a.now a.b.now h.shared_slice_known-1.given h.shared_slice_known-2-1.given in
    (law 0 8 (omega arith) (λ k p. absurd (omega arith)), omega arith, omega arith, omega arith))  -- alike-requires
    (λ c κs. search rules) (λ c κs. search rules)
    (λ c. let d = c in let h = d in let a = h.args in
    let law = word_decides a.a.now a.b.now h.shared_slice_known-1.given h.shared_slice_known-2-1.given in
    below_by c.word-x.result c.word-y.result
    (law d.alike-i.result _ _ (omega arith) (omega arith) (omega arith) d.alike-i.ensures.alike (omega arith) (omega arith)))  -- returns-3
    (λ c. let d = c in let h = d in let a = h.args in
    let law = end_decides a.a.now a.b.now h.shared_slice_known-1.given h.shared_slice_known-2-1.given in
    below_by (length a.a.now) (length a.b.now)
    (law d.alike-i.result _ _ (omega arith) (omega arith) d.min-shared.result (omega arith) d.alike-i.ensures (omega arith))))  -- returns-4
