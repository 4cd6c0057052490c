-- `eights::alike` meets its contract: where eight bytes spell the same number, they are the same. Assumes nothing.
use Prim.Native.Nat.{◌+◌, ◌-◌}
use native.Mathlib.Omega.{arith}
use Rattle.eights.specs.Steps.{Alike}
use Rattle.eights.proofs.Words.{alike_le, le_alike}
use Rattle.eights.proofs.alike.Statement.{statement}
use Rattle.eights.proofs.alike.Tie as tie

abbrev invariant_loop : tie.invariant-loop-i
invariant_loop a b shared last i₀ i = Alike a b i

abbrev decreases_loop : tie.decreases-loop-i
decreases_loop a b shared last i₀ i = last - i

pub alike_spec : {M : Type 1} → statement M
alike_spec =
    tie.close
    (tie.spec
    invariant_loop
    decreases_loop
    (λ c. omega arith)
    (λ c. λ k p. c.requires.0 k (omega arith))  -- loop-holds
    (λ c κs. omega arith) (λ c κs. omega arith)
    (λ c. let h = c in let a = h.args in let i = h.loop-i.i in
    let law = alike_le a.a.now a.b.now 4 in
    record {
      alike = λ k p. h.loop-i.invariant k (omega arith);
      inside = omega arith;
      last = λ e. omega (arith, law i (omega arith) (omega arith) (λ k p. e k (omega arith)), law (i + 4) (omega arith) (omega arith) (λ k p. e k (omega arith)));
    })  -- returns
    (λ c. omega arith) (λ c. omega arith)
    (λ c. let h = c in let g = h in let a = g.args in let i = h.loop-i.i in
    let law = le_alike a.a.now a.b.now g.shared_slice_known-1.given g.shared_slice_known-2-1.given 4 in
    let low = law i (omega arith) (omega arith) (omega arith) h.loop-i.invariant in
    λ k p. law (i + 4) (omega arith) (omega arith) (omega arith) low k (omega arith))  -- loop-again
    (λ c. let l = c.loop-i in
    record { alike = λ k p. l.invariant k (omega arith); inside = omega arith; last = λ e. omega arith }))  -- returns-2
