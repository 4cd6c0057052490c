-- `split::gather` meets its contract: what is left makes the same of run and ends as the whole does. Assumes nothing.
use Rattle.rules.proofs.Prelude.{refl, ◌-◌, arith, rules, length}
use Rattle.split.proofs.Laws.{Left, begins, within, turn, ended}
use Rattle.split.proofs.gather.Statement.{statement}
use Rattle.split.proofs.gather.Tie as tie

abbrev invariant_loop : tie.invariant-loop-at
invariant_loop text run₀ ends₀ at₀ len₀ count₀ run ends at len count = Left text run₀ ends₀ run ends at len count

abbrev decreases_loop : tie.decreases-loop-at
decreases_loop text run₀ ends₀ at₀ len₀ count₀ run ends at len count = length text - at

pub gather_spec : {M : Type 1} → statement M
gather_spec =
    tie.close
    (tie.spec
    invariant_loop
    decreases_loop
    (λ c. begins _ _ _)  -- loop-holds
    (λ c κs. search rules)  -- find-requires
    (λ c. omega (arith, within c.loop-at.invariant _ c.loop-at-test.true c.find-end.ensures))  -- sub-copy
    (λ c κs. let f = c in omega (arith, within f.loop-at.invariant _ f.loop-at-test.true f.find-end.ensures, f.loop-at.invariant))  -- copy-requires
    (λ c. let f = c in omega (arith, within f.loop-at.invariant _ f.loop-at-test.true f.find-end.ensures))  -- sub-len
    (λ c. let f = c in omega (arith, within f.loop-at.invariant _ f.loop-at-test.true f.find-end.ensures))  -- add-len
    (λ c. let f = c in omega (arith, within f.loop-at.invariant _ f.loop-at-test.true f.find-end.ensures))  -- cast-ends
    (λ c. search rules)  -- mul-ends
    (λ c. let f = c in
    omega (arith, within f.loop-at.invariant _ f.loop-at-test.true f.find-end.ensures, f.loop-at.invariant))  -- slice-write-ends
    (λ c. let f = c in omega (arith, within f.loop-at.invariant _ f.loop-at-test.true f.find-end.ensures))  -- add-count
    (λ c. let f = c in omega (arith, within f.loop-at.invariant _ f.loop-at-test.true f.find-end.ensures))  -- add-at
    (λ c. let f = c in omega (arith, within f.loop-at.invariant _ f.loop-at-test.true f.find-end.ensures))  -- loop-less
    (λ c. let f = c in
    rw c.copy.ensures (turn f.loop-at.invariant _ f.loop-at-test.true f.find-end.ensures))  -- loop-again
    (λ c. c.loop-at.invariant.run_same)  -- same-length
    (λ c. c.loop-at.invariant.ends_same)  -- same-length-2
    (λ c. let l = c.loop-at.invariant in
    let pre = c.requires in
    (ended l (omega arith) _ refl refl pre.0 pre.1, omega (arith, l, pre))))  -- returns
