-- `value::payload_start` meets its contract: after the length, or after the header byte. Assumes nothing.
use Rattle.rules.proofs.Prelude.{rules, ◌∙◌, sym}
use Rattle.value.specs.Reading.{payload_start}
use Rattle.value.proofs.payload_start.Statement.{statement}
use Rattle.value.proofs.payload_start.Tie as tie

pub payload_start_spec : {M : Type 1} → statement M
unfolding payload_start
payload_start_spec =
    tie.close
    (tie.spec
    (λ c κs. search rules)  -- holds-length-requires
    (λ c. rw (sym c.holds_length.ensures ∙ c.if-holds_length.true))  -- returns
    (λ c. rw (sym c.holds_length.ensures ∙ c.if-holds_length.false)))  -- returns-2
