-- `lookup::find` meets its contract: halving keeps the query between what is below and what is above it. Assumes nothing.
use Rattle.rules.proofs.Prelude.{sym, ◌∙◌, ℕ, ◌+◌, ◌-◌, ◌/◌, ◌≤◌, arith, rules}
use Rattle.names.proofs.Search.{Between, between_less, between_greater, between_equal, between_none}
use Rattle.layer.specs.Object.{field_name, count as count_of}
use Rattle.layer.proofs.Laws.{names_rise}
use Rattle.lookup.proofs.FromAbove.{between}
use Rattle.lookup.proofs.find.Statement.{statement}
use Rattle.lookup.proofs.find.Tie as tie

abbrev invariant_loop : tie.invariant-loop-low
invariant_loop dict h object l name above low₀ high₀ low high = (low ≤ high) × (high ≤ count_of object) × Between (field_name dict object) name (count_of object) low high

abbrev decreases_loop : tie.decreases-loop-low
decreases_loop dict h object l name above low₀ high₀ low high = high - low

abbrev middle : ℕ → ℕ → ℕ
middle low high = low + (high - low) / 2

pub find_spec : {M : Type 1} → statement M
find_spec =
    tie.close
    (tie.spec
    invariant_loop
    decreases_loop
    (λ c. let p = c.requires in (omega arith, p.1, between _ _ _ _ p.2))  -- loop-holds
    (λ c. omega arith) (λ c. omega arith)
    (λ c κs. (c.requires.0, omega arith))  -- compare-field-requires
    (λ c. search rules) (λ c. omega arith) (λ c. omega arith)
    (λ c. let e = sym c.compare_field-order.ensures ∙ c.in-Less.is in
    let l = c.loop-low in
    let s = c in
    let rising = names_rise s.args.dict.now s.args.object.now s.requires.0.passes in
    (omega arith, omega arith, between_less _ _ _ rising l.low l.high (middle l.low l.high) l.invariant.2 (omega arith) e))  -- loop-again
    (λ c. search rules)  -- enum-told-2
    (λ c. let e = sym c.compare_field-order.ensures ∙ c.in-Equal.is in
    let l = c.loop-low in
    let s = c in
    let rising = names_rise s.args.dict.now s.args.object.now s.requires.0.passes in
    sym (between_equal _ _ _ rising l.low l.high (middle l.low l.high) l.invariant.2 (omega arith) e))  -- returns
    (λ c. search rules) (λ c. omega arith)
    (λ c. let e = sym c.compare_field-order.ensures ∙ c.in-Greater.is in
    let l = c.loop-low in
    let s = c in
    let rising = names_rise s.args.dict.now s.args.object.now s.requires.0.passes in
    (omega arith, omega arith, between_greater _ _ _ rising l.low l.high (middle l.low l.high) l.invariant.2 (omega arith) e))  -- loop-again-2
    (λ c. let l = c.loop-low in
    let s = c in
    let rising = names_rise s.args.dict.now s.args.object.now s.requires.0.passes in
    sym (between_none _ _ _ rising l.low l.high l.invariant.2 (omega arith))))  -- returns-2
