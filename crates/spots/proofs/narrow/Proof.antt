-- `spots::narrow` meets its contract: each turn of the loop takes a half away, for all four names. Assumes nothing.
use Rattle.rules.proofs.Prelude.{List, ℕ, ◌+◌, ◌/◌, ◌≤◌, ◌<◌, arith, rules}
use Rattle.part.proofs.Laws.{part_whole}
use Rattle.layer.specs.Object.{count}
use Rattle.lookup.specs.Steps.{AllAbove}
use Rattle.lookup.proofs.FromAbove.{none_above}
use Rattle.spots.proofs.FromAbove.{fewer_above, narrowed}
use Rattle.spots.proofs.narrow.Statement.{statement}
use Rattle.spots.proofs.narrow.Tie as tie

-- so many fields from `at` on may be the query's
pub record Among (d o q : List ℕ) (at size : ℕ) : Type 0 where
  pub inside : at + size ≤ count o
  pub above : AllAbove d o q (at + size)

abbrev invariant_loop : tie.invariant-loop-size
invariant_loop dict h object l first second third fourth p q r s a₀ b₀ c₀ d₀ size₀ a b c d size =
    (0 < count object → 1 ≤ size) × Among dict object first a size × Among dict object second b size × Among dict object third c size
    × Among dict object fourth d size

abbrev decreases_loop : tie.decreases-loop-size
decreases_loop dict h object l first second third fourth p q r s a₀ b₀ c₀ d₀ size₀ a b c d size = size

pub narrow_spec : {M : Type 1} → statement M
narrow_spec =
    tie.close
    (tie.spec
    invariant_loop
    decreases_loop
    (λ c κs. search rules) (λ c κs. search rules) (λ c κs. search rules) (λ c κs. search rules)
    (λ c. let s = c in
    let all : (q : List ℕ) → Among s.args.dict.now s.args.object.now q 0 s.args.l.count = λ q. record {
      inside = omega (arith, s.requires.layered.count_is);
      above = fewer_above _ _ q _ _ (omega (arith, s.requires.layered.count_is)) (none_above _ _ q);
    } in
    (λ p. omega (arith, s.requires.layered.count_is), all _, all _, all _, all _))  -- loop-holds
    (λ c κs. let i = c.loop-size.invariant in (
      c.requires,
      omega
          (arith, i.1.inside),
      c.key-p.ensures.small,
    ))  -- probe-requires
    (λ c κs. let i = c.loop-size.invariant in (
      c.requires,
      omega
          (arith, i.2.inside),
      c.key-q.ensures.small,
    ))  -- probe-requires-2
    (λ c κs. let i = c.loop-size.invariant in (
      c.requires,
      omega
          (arith, i.3.inside),
      c.key-r.ensures.small,
    ))  -- probe-requires-3
    (λ c κs. let i = c.loop-size.invariant in (
      c.requires,
      omega
          (arith, i.4.inside),
      c.key-s.ensures.small,
    ))  -- probe-requires-4
    (λ c. omega arith) (λ c. omega arith)
    (λ c. let s = c in
    let passes = s.requires.passes in
    let l = c.loop-size in
    let p-is = rw (part_whole s.args.first.now) at c.key-p.ensures in
    let q-is = rw (part_whole s.args.second.now) at c.key-q.ensures in
    let r-is = rw (part_whole s.args.third.now) at c.key-r.ensures in
    let s-is = rw (part_whole s.args.fourth.now) at c.key-s.ensures in
    let first = narrowed _ _ _ passes p-is l.a l.size (l.size / 2) _ (omega arith) (omega arith) l.invariant.1.inside l.invariant.1.above c.probe-a.ensures in
    let second = narrowed _ _ _ passes q-is l.b l.size (l.size / 2) _ (omega arith) (omega arith) l.invariant.2.inside l.invariant.2.above c.probe-b.ensures in
    let third = narrowed _ _ _ passes r-is l.c l.size (l.size / 2) _ (omega arith) (omega arith) l.invariant.3.inside l.invariant.3.above c.probe-c.ensures in
    let fourth = narrowed _ _ _ passes s-is l.d l.size (l.size / 2) _ (omega arith) (omega arith) l.invariant.4.inside l.invariant.4.above c.probe-d.ensures in (
      λ p. omega arith,
      record { inside = first.0; above = first.1 },
      record { inside = second.0; above = second.1 },
      record { inside = third.0; above = third.1 },
      record
          { inside = fourth.0; above = fourth.1 },
    ))  -- loop-again
    (λ c. let l = c.loop-size in let a = c.args in (
      record {
        key_is = rw (part_whole a.first.now) at c.key-p.ensures;
        inside = λ p. omega (arith, l.invariant.0 p, l.invariant.1.inside);
        above = fewer_above _ _ _ _ _ (omega arith) l.invariant.1.above;
      },
      record {
        key_is = rw (part_whole a.second.now) at c.key-q.ensures;
        inside = λ p. omega (arith, l.invariant.0 p, l.invariant.2.inside);
        above = fewer_above _ _ _ _ _ (omega arith) l.invariant.2.above;
      },
      record {
        key_is = rw (part_whole a.third.now) at c.key-r.ensures;
        inside = λ p. omega (arith, l.invariant.0 p, l.invariant.3.inside);
        above = fewer_above _ _ _ _ _ (omega arith) l.invariant.3.above;
      },
      record {
        key_is = rw (part_whole a.fourth.now) at c.key-s.ensures;
        inside = λ p. omega (arith, l.invariant.0 p, l.invariant.4.inside);
        above = fewer_above _ _ _ _ _ (omega arith) l.invariant.4.above;
      },
    )))  -- returns
