-- `doubles::halve` meets its contract: up to `low` no name stands twice, and up to `high` one does. Assumes nothing.
use Rattle.rules.proofs.Prelude.{◌≡◌, refl, ◌∙◌, ◌+◌, ◌-◌, ◌/◌, ◌≤◌, ◌<◌, arith, length}
use Rattle.sets.specs.Sets.{collect}
use Rattle.sets.proofs.Laws.{collect_count}
use Rattle.source.specs.Names.{name_of}
use Rattle.doubles.proofs.Laws.{halved, collect_none}
use Rattle.doubles.proofs.halve.Statement.{statement}
use Rattle.doubles.proofs.halve.Tie as tie

abbrev invariant_loop : tie.invariant-loop-high
invariant_loop run words n order₀ spare₀ kind low₀ high₀ order spare low high =
    (low < high)
    × (high ≤ n)
    × (length (collect (name_of run words kind) 0 low) ≡ low)
    × (length (collect (name_of run words kind) 0 high) < high)
    × (length order ≡ length order₀)
    × (length spare ≡ length spare₀)

abbrev decreases_loop : tie.decreases-loop-high
decreases_loop run words n order₀ spare₀ kind low₀ high₀ order spare low high = high - low

pub halve_spec : {M : Type 1} → statement M
halve_spec =
    tie.close
    (tie.spec
    invariant_loop
    decreases_loop
    (λ c. let s = c in (omega arith, omega arith, collect_none _, s.requires.5, refl, refl))  -- loop-holds
    (λ c. omega arith)  -- sub-loop
    (λ c. omega arith)  -- sub-middle
    (λ c. omega arith)  -- add-middle
    (λ c κs. let s = c in (s.requires.0, omega arith, omega arith, omega arith, omega arith))  -- count-names-requires
    (λ c. omega arith)  -- loop-less
    (λ c. let l = c.loop-high in
    let k = c.count_names in
    (omega arith, omega arith, l.invariant.2, omega arith, k.auto.order ∙ l.invariant.4, k.auto.spare ∙ l.invariant.5))  -- loop-again
    (λ c. omega arith)  -- loop-less-2
    (λ c. let l = c.loop-high in
    let k = c.count_names in
    let a = c.args in
    let n = name_of a.run.now a.words.now a.kind in
    (omega arith, omega arith, omega (arith, collect_count n 0 (l.low + (l.high - l.low) / 2)), l.invariant.3, k.auto.order ∙ l.invariant.4, k.auto.spare ∙ l.invariant.5))  -- loop-again-2
    (λ c. c.loop-high.invariant.4)  -- same-length
    (λ c. c.loop-high.invariant.5)  -- same-length-2
    (λ c. let l = c.loop-high in halved _ _ l.low l.high l.invariant.1 l.invariant.0 (omega arith) l.invariant.2 l.invariant.3))  -- returns
