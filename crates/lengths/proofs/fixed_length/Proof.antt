-- `lengths::fixed_length` meets its contract: the table's bytes after the header byte, of a type that holds no length. Assumes nothing.
use Rattle.rules.proofs.Prelude.{sym, arith, rules, lt-ltb, le-ltb}
use Rattle.lengths.specs.Lengths.{payload, fixed_length}
use Rattle.lengths.proofs.fixed_length.Statement.{statement}
use Rattle.lengths.proofs.fixed_length.Tie as tie

pub fixed_length_spec : {M : Type 1} → statement M
unfolding fixed_length payload
fixed_length_spec =
    tie.close
    (tie.spec
    (λ c. rw (lt-ltb 20 c.args.t (omega arith)))  -- returns
    (λ c κs. search rules)  -- holds-length-requires
    (λ c. rw (le-ltb 20 c.args.t (omega arith), sym c.holds_length.ensures, c.if-holds_length.true))  -- returns-2
    (λ c. omega arith) (λ c κs. search rules) (λ c. omega arith)
    (λ c. rw (le-ltb 20 c.args.t (omega arith), sym c.holds_length.ensures, c.if-holds_length.false, c.wide.ensures.0)))  -- returns-3
