-- `utf8::right_up_to` meets its contract: block after block is right, and so are the bytes before it. Assumes nothing.
use mathlib.Core.Path.{◌≡◌}
use Prim.Native.Nat.{◌+◌, ◌-◌, ◌≤◌}
use native.Mathlib.Omega.{arith}
use lib.ListN.{length, get_or}
use Rattle.plain.specs.Steps.{AtMost}
use Rattle.plain.proofs.Laws.{join}
use Rattle.blocks.specs.Steps.{RightAt, Rights}
use Rattle.utf8.proofs.right_up_to.Statement.{statement}
use Rattle.utf8.proofs.right_up_to.Tie as tie

abbrev invariant_loop : tie.invariant-loop-at
invariant_loop s count before₀ at₀ before at = (at + 3 ≤ length s) × Rights s 0 (at + 3) × AtMost s at (at + 3) before

abbrev decreases_loop : tie.decreases-loop-at
decreases_loop s count before₀ at₀ before at = length s - at

pub right_up_to_spec : {M : Type 1} → statement M
right_up_to_spec =
    tie.close
    (tie.spec
    invariant_loop
    decreases_loop
    (λ c κs. omega arith)
    (λ c κs. (omega arith, c.largest-before.ensures))  -- first-pass-requires
    (λ c. (λ k p q. absurd (omega arith), omega arith))  -- returns
    (λ c. (omega arith, c.first_pass.ensures c.if-not-first_pass.false, c.largest-before.ensures))  -- loop-holds
    (λ c. omega arith) (λ c. omega arith) (λ c. omega arith) (λ c κs. omega arith) (λ c κs. tt)
    (λ c κs. let h = c in let s = h.args.s.now in let l = h.loop-at in (
      omega arith,
      join (λ k. get_or s k 0 ≤ c.max.result) l.at (l.at + 3) (λ k u v. omega (arith, l.invariant.2 k u v)) (l.at + 3) _
          (λ k u v. omega (arith, c.largest-most.ensures k u v)) (omega arith),
    ))  -- passes-requires
    (λ c. omega arith)
    (λ c. let l = c.loop-at in (l.invariant.1, l.invariant.0))  -- returns-2
    (λ c. omega arith) (λ c. omega arith)
    (λ c. let h = c in let a = h.args in let l = h.loop-at in
    let e : l.at + 3 + a.count ≡ l.at + a.count + 3 = omega arith in (
      omega arith,
      rw e at (join (RightAt a.s.now) 0 (l.at + 3) l.invariant.1 (l.at + 3) _ (c.passes.ensures c.if-not-passes.false) (omega arith)),
      λ k p q. c.largest-most.ensures k (omega arith) (omega arith),
    ))  -- loop-again
    (λ c. omega arith) (λ c. omega arith) (λ c. omega arith) (λ c κs. omega arith)
    (λ c κs. let a = c.args in
    (omega arith, λ k p q. c.largest.ensures k p (omega arith)))  -- passes-requires-2
    (λ c. let h = c in let a = h.args in let l = h.loop-at in let n = length a.s.now in
    let e : n - (3 + a.count) + 3 + a.count ≡ n = omega arith in
    let g = c.passes-2.ensures c.if-passes.true in
    (join (RightAt a.s.now) 0 (l.at + 3) l.invariant.1 (n - (3 + a.count) + 3) n (rw e at g) (omega arith), omega arith))  -- returns-3
    (λ c. omega arith)
    (λ c. let l = c.loop-at in (l.invariant.1, l.invariant.0)))  -- returns-4
