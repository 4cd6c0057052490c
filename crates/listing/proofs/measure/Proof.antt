-- `listing::measure` meets its contract: the loop keeps that the children before k have their own length. Assumes nothing.
use Rattle.rules.proofs.Prelude.{◌≡◌, ◌∙◌, sym, ap, ◌-◌, ◌≤◌, arith, first, each, pass, first_at, first_pass, each_none, each_more, each_stop, ◌&◌}
use Rattle.lengths.specs.Lengths.{is_known}
use Rattle.layer.specs.Object.{count as count_of}
use Rattle.layer.proofs.Laws.{count_below}
use Rattle.listing.specs.Words.{span_rules}
use Rattle.listing.proofs.measure.Statement.{statement}
use Rattle.listing.proofs.measure.Tie as tie

abbrev invariant_loop : tie.invariant-loop-k
invariant_loop object l k₀ k_end k = (k ≤ k_end) × (first (each (span_rules object) k) ≡ pass)

abbrev decreases_loop : tie.decreases-loop-k
decreases_loop object l k₀ k_end k = k_end - k

pub measure_spec : {M : Type 1} → statement M
unfolding span_rules
measure_spec =
    tie.close
    (tie.spec
    invariant_loop
    decreases_loop
    (λ c. (omega arith, each_none _))  -- loop-holds
    (λ c κs. (c.requires.0, omega arith, c.requires.1 _ (omega arith)))  -- own-length-requires
    (λ c κs. tt)  -- is-known-requires
    (λ c. let l = c.loop-k in
    let o = c.args.object.now in
    let none = sym (c.is_known-known.ensures ∙ ap is_known c.own_length.ensures) ∙ c.if-not-known.true in
    sym (each_stop _ l.k _ l.invariant.1 (first_at 0 (span_rules o l.k) none) (omega arith)))  -- returns
    (λ c. omega (arith, count_below c.args.object.now))  -- add-k
    (λ c. omega arith)  -- loop-less
    (λ c. let l = c.loop-k in
    let o = c.args.object.now in
    let some = sym (c.is_known-known.ensures ∙ ap is_known c.own_length.ensures) ∙ c.if-not-known.false in
    (omega arith, each_more _ l.k l.invariant.1 ∙ first_pass (span_rules o l.k) (some & tt)))  -- loop-again
    (λ c. let l = c.loop-k in
    let all : l.k ≡ count_of c.args.object.now = omega arith in
    rw (← all) (sym l.invariant.1)))  -- returns-2
