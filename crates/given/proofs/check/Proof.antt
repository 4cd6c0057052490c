-- `given::check` meets its contract: the names before k are good, and name k begins where the last of them ends. Assumes nothing.
use Rattle.rules.proofs.Prelude.{◌≡◌, refl, sym, ◌∙◌, ◌-◌, ◌≤◌, arith, length, first, each, pass, each_none, each_more, each_stop, first_pass}
use Rattle.run.specs.Run.{begin as begin_of}
use Rattle.run.proofs.Means.{next}
use Rattle.given.specs.Given.{name_rules, checks}
use Rattle.given.proofs.Means.{good_passed, bad_stops}
use Rattle.given.proofs.check.Statement.{statement}
use Rattle.given.proofs.check.Tie as tie

abbrev invariant_loop : tie.invariant-loop-number
invariant_loop run ends begin₀ number₀ last begin number =
    (number ≤ length ends) × (begin ≡ begin_of ends number) × (first (each (name_rules run ends) number) ≡ pass)

abbrev decreases_loop : tie.decreases-loop-number
decreases_loop run ends begin₀ number₀ last begin number = length ends - number

pub check_spec : {M : Type 1} → statement M
unfolding begin_of checks
check_spec =
    tie.close
    (tie.spec
    invariant_loop
    decreases_loop
    (λ c. (omega arith, refl, each_none _))  -- loop-holds
    (λ c. omega arith) (λ c. omega arith)
    (λ c κs. tt)  -- is-good-requires
    (λ c. let l = c.loop-number in
    let a = c.args in
    let w = rw (l.invariant.1, c.if-not-is_good.true) at c.is_good.ensures in
    sym (each_stop (name_rules a.run.now a.ends.now) l.number _ l.invariant.2 (bad_stops _ _ l.number w) (omega arith)))  -- returns
    (λ c. omega arith) (λ c. omega arith)
    (λ c. let l = c.loop-number in
    let a = c.args in
    let w = rw (l.invariant.1, c.if-not-is_good.false) at c.is_good.ensures in
    (omega arith, next a.ends.now l.number, each_more (name_rules a.run.now a.ends.now) l.number l.invariant.2 ∙ first_pass _ (good_passed _ _ l.number w)))  -- loop-again
    (λ c. let l = c.loop-number in
    let all : l.number ≡ length c.args.ends.now = omega arith in
    sym (rw all at l.invariant.2)))  -- returns-2
