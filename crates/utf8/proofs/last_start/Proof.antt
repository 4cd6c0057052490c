-- `utf8::last_start` meets its contract: a byte that continues nothing starts a character. Assumes nothing.
use Rattle.rules.proofs.Prelude.{◌-◌, ◌≤◌, arith}
use Rattle.utf8.proofs.Local.{right_start}
use Rattle.utf8.proofs.last_start.Statement.{statement}
use Rattle.utf8.proofs.last_start.Tie as tie

abbrev invariant_loop : tie.invariant-loop-at
invariant_loop s end at₀ at = at ≤ end

abbrev decreases_loop : tie.decreases-loop-at
decreases_loop s end at₀ at = at

pub last_start_spec : {M : Type 1} → statement M
last_start_spec =
    tie.close
    (tie.spec
    invariant_loop
    decreases_loop
    (λ c. omega arith) (λ c. omega arith) (λ c. omega arith)
    (λ c. let h = c in let p = h.requires in
    right_start h.args.s.now (h.loop-at.at - 1) (omega arith) (λ k u v. p.0 k u (omega arith)) (λ t. omega (arith, t)))  -- returns
    (λ c. omega arith)
    (λ c. let h = c in let p = h.requires in
    right_start h.args.s.now (h.loop-at.at - 1) (omega arith) (λ k u v. p.0 k u (omega arith)) (λ t. omega (arith, t)))  -- returns-2
    (λ c. omega arith) (λ c. omega arith)
    (λ c. (omega arith, omega arith)))  -- returns-3
