-- `columns::check_offsets` meets its contract: the loop keeps that all fields before k pass. Assumes nothing.
use Rattle.rules.proofs.Prelude.{◌≡◌, sym, ◌∙◌, ◌-◌, ◌≤◌, arith, rules, first, each, pass, first_at, first_pass, each_none, each_more, each_stop}
use Rattle.layer.specs.Object.{count as count_of, offset_rules}
use Rattle.layer.proofs.Laws.{start_before, end_is}
use Rattle.columns.proofs.check_offsets.Statement.{statement}
use Rattle.columns.proofs.check_offsets.Tie as tie

abbrev invariant_loop : tie.invariant-loop-k
invariant_loop object l length k₀ k_end k = (k ≤ k_end) × (first (each (offset_rules object) k) ≡ pass)

abbrev decreases_loop : tie.decreases-loop-k
decreases_loop object l length k₀ k_end k = k_end - k

pub check_offsets_spec : {M : Type 1} → statement M
unfolding offset_rules
check_offsets_spec =
    tie.close
    (tie.spec
    invariant_loop
    decreases_loop
    (λ c. omega arith)  -- sub-length
    (λ c. (omega arith, each_none _))  -- loop-holds
    (λ c κs. omega arith) (λ c κs. search rules)
    (λ c. let l = c.loop-k in
    let o = c.args.object.now in
    sym (each_stop _ l.k _ l.invariant.1 (first_at 0 (offset_rules o l.k) (omega (arith, start_before o, end_is o))) (omega arith)))  -- returns
    (λ c. let l = c.loop-k in
    let o = c.args.object.now in
    let empty = rw c.if-is_empty.true at c.is_empty.ensures in
    sym (each_stop _ l.k _ l.invariant.1 (first_at 1 (offset_rules o l.k) (omega (arith, start_before o, end_is o))) (omega arith)))  -- returns-2
    (λ c. omega arith) (λ c. omega arith)
    (λ c. let l = c.loop-k in
    let o = c.args.object.now in
    let some = rw c.if-is_empty.false at c.is_empty.ensures in
    (omega arith, each_more _ l.k l.invariant.1 ∙ first_pass (offset_rules o l.k) (omega (arith, start_before o, end_is o))))  -- loop-again
    (λ c. let l = c.loop-k in
    let all : l.k ≡ count_of c.args.object.now = omega arith in
    rw (← all) (sym l.invariant.1)))  -- returns-3
