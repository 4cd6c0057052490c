-- `run::check` meets its contract: the ends before one are good, and its name begins where the last of them is. Assumes nothing.
use Rattle.rules.proofs.Prelude.{◌≡◌, refl, sym, ◌∙◌, List, ℕ, ◌+◌, ◌-◌, ◌≤◌, ◌<◌, arith, length, first, each, pass, stop, each_none, each_more, each_stop, first_at, first_pass}
use Rattle.run.specs.Run.{begin as begin_of, end as end_of, end_rules, checks}
use Rattle.run.proofs.Means.{next}
use Rattle.run.proofs.check.Statement.{statement}
use Rattle.run.proofs.check.Tie as tie

abbrev invariant_loop : tie.invariant-loop-number
invariant_loop run ends begin₀ number₀ last begin number =
    (number ≤ length ends) × (begin ≡ begin_of ends number) × (first (each (end_rules run ends) number) ≡ pass)

abbrev decreases_loop : tie.decreases-loop-number
decreases_loop run ends begin₀ number₀ last begin number = length ends - number

-- an end that falls or passes the run stops
stopped : (run ends : List ℕ) (k : ℕ) → k < length ends → first (each (end_rules run ends) k) ≡ pass → (begin_of ends k ≤ end_of ends k → length run < end_of ends k)
    → stop 45 k ≡ checks run ends
unfolding checks end_rules
stopped run ends k p e h = sym (each_stop (end_rules run ends) k (length ends) e (first_at 0 (end_rules run ends k) h) p)

-- one that does not is good, and the next name begins there
goes_on : (run ends : List ℕ) (k : ℕ) → first (each (end_rules run ends) k) ≡ pass → begin_of ends k ≤ end_of ends k → end_of ends k ≤ length run
    → first (each (end_rules run ends) (k + 1)) ≡ pass
unfolding end_rules
goes_on run ends k e h i = each_more (end_rules run ends) k e ∙ first_pass _ ((h, i), tt)

pub check_spec : {M : Type 1} → statement M
unfolding begin_of checks
check_spec =
    tie.close
    (tie.spec
    invariant_loop
    decreases_loop
    (λ c. (omega arith, refl, each_none _))  -- loop-holds
    (λ c. omega arith) (λ c. omega arith)
    (λ c. let l = c.loop-number in stopped _ _ l.number (omega arith) l.invariant.2 (λ f. absurd (omega arith)))  -- returns
    (λ c. let l = c.loop-number in stopped _ _ l.number (omega arith) l.invariant.2 (λ _. omega arith))  -- returns-2
    (λ c. omega arith) (λ c. omega arith)
    (λ c. let l = c.loop-number in
    let a = c.args in
    (omega arith, next a.ends.now l.number, goes_on a.run.now a.ends.now l.number l.invariant.2 (omega arith) (omega arith)))  -- loop-again
    (λ c. let l = c.loop-number in
    let all : l.number ≡ length c.args.ends.now = omega arith in
    sym (rw all at l.invariant.2)))  -- returns-3
