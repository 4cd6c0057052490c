-- `plain::strides` meets its contract: each stride is a run of bytes below 80. Assumes nothing.
use Prim.Native.Nat.{◌-◌}
use native.Mathlib.Omega.{arith}
use lib.ListN.{length}
use Rattle.plain.specs.Steps.{Reached}
use Rattle.plain.proofs.Laws.{text_run}
use Rattle.plain.proofs.strides.Statement.{statement}
use Rattle.plain.proofs.strides.Tie as tie

abbrev invariant_loop : tie.invariant-loop-at
invariant_loop s at₀ at = Reached s at

abbrev decreases_loop : tie.decreases-loop-at
decreases_loop s at₀ at = length s - at

pub strides_spec : {M : Type 1} → statement M
strides_spec =
    tie.close
    (tie.spec
    invariant_loop
    decreases_loop
    (λ c. (omega arith, omega arith))  -- loop-holds
    (λ c. omega arith) (λ c κs. omega arith)
    (λ c. c.loop-at.invariant)  -- returns
    (λ c. omega arith) (λ c. omega arith)
    (λ c. let h = c in let s = h.args.s.now in let at = h.loop-at.at in
    text_run s at _ h.loop-at.invariant (omega arith) (omega arith) (λ k p q. omega (arith, c.largest.ensures k p (omega arith))))  -- loop-again
    (λ c. c.loop-at.invariant)  -- returns-2
    (λ c. omega arith) (λ c κs. omega arith)
    (λ c. c.loop-at.invariant)  -- returns-3
    (λ c. let h = c in let s = h.args.s.now in let at = h.loop-at.at in
    text_run s at _ h.loop-at.invariant (omega arith) (omega arith) (λ k p q. omega (arith, c.largest-2.ensures k (omega arith) (omega arith)))))  -- returns-4
