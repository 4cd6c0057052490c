-- `list::check_offsets` meets its contract: the loop keeps that all elements before k pass. Assumes nothing.
use Rattle.rules.proofs.Prelude.{◌≡◌, sym, ◌∙◌, ◌-◌, arith, ◌≤◌, first, each, pass, first_at, first_pass, each_none, each_more, each_stop}
use Rattle.layout.specs.Layout.{count as count_of, offset as offset_of}
use Rattle.layout.proofs.Laws.{end_is}
use Rattle.list.specs.List.{element_rules}
use Rattle.list.proofs.check_offsets.Statement.{statement}
use Rattle.list.proofs.check_offsets.Tie as tie

abbrev invariant_loop : tie.invariant-loop-k
invariant_loop list w l length from₀ k₀ k_end from k = (first (each (element_rules w list) k) ≡ pass) × (from ≡ offset_of w list k) × (k ≤ k_end)

abbrev decreases_loop : tie.decreases-loop-k
decreases_loop list w l length from₀ k₀ k_end from k = k_end - k

pub check_offsets_spec : {M : Type 1} → statement M
unfolding element_rules
check_offsets_spec =
    tie.close
    (tie.spec
    invariant_loop
    decreases_loop
    (λ c. omega arith)  -- sub-length
    (λ c κs. (c.requires.0, c.requires.1, omega arith))  -- offset-at-requires
    (λ c. (each_none _, omega arith, omega arith))  -- loop-holds
    (λ c. omega arith)  -- add-offset-at
    (λ c κs. (c.requires.0, c.requires.1, omega arith))  -- offset-at-requires-2
    (λ c. let l = c.loop-k in
    let a = c.args in
    sym (each_stop _ l.k _ l.invariant.0 (first_at 0 (element_rules a.w a.list.now l.k) (omega arith)) (omega arith)))  -- returns
    (λ c. let l = c.loop-k in
    let a = c.args in
    let rows = element_rules a.w a.list.now l.k in
    sym (each_stop _ l.k _ l.invariant.0 (first_at 1 rows (omega (arith, end_is a.w a.list.now))) (omega arith)))  -- returns-2
    (λ c. omega arith) (λ c. omega arith)
    (λ c. let l = c.loop-k in
    let a = c.args in
    let rows = element_rules a.w a.list.now l.k in
    (each_more _ l.k l.invariant.0 ∙ first_pass rows (omega (arith, end_is a.w a.list.now)), omega arith, omega arith))  -- loop-again
    (λ c. let l = c.loop-k in
    let a = c.args in
    let all : l.k ≡ count_of a.w a.list.now = omega arith in
    rw (← all) (sym l.invariant.0)))  -- returns-3
