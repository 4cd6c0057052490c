-- `lengths::primitive_length` meets its contract: the type, then the length that it holds, then the end. Assumes nothing.
use Rattle.rules.proofs.Prelude.{◌∙◌, sym, add-zero, arith, rules, false_true}
use Rattle.lengths.specs.Lengths.{payload}
use Rattle.lengths.proofs.Laws.{no_such_type, length_cut, to_its_end, held_some, held_none}
use Rattle.lengths.proofs.primitive_length.Statement.{statement}
use Rattle.lengths.proofs.primitive_length.Tie as tie

pub primitive_length_spec : {M : Type 1} → statement M
unfolding payload
primitive_length_spec =
    tie.close
    (tie.spec
    (λ c. no_such_type _ _ (omega arith))  -- returns
    (λ c. search rules)  -- array-read-wide
    (λ c κs. search rules)  -- wide-requires
    (λ c κs. search rules)  -- holds-length-requires
    (λ c. length_cut _ _ (omega arith) (sym c.holds_length.ensures ∙ c.if-holds_length.true) c.if-s-lt5.true)  -- returns-2
    (λ c κs. search rules)  -- unpack-u32-requires
    (λ c. search rules)  -- add-within
    (λ c. search rules)  -- add-within-2
    (λ c κs. search rules)  -- within-requires
    (λ c. let a = c.args in
    let holds = sym c.holds_length.ensures ∙ c.if-holds_length.true in
    let held = c.unpack_u32-held.ensures.is ∙ sym (held_some a.t a.s.now holds) in
    let payload = c.wide-payload.ensures.0 in
    c.within.ensures ∙ rw (payload, held) (to_its_end a.t a.s.now (omega arith) (λ _. c.if-s-lt5.false)))  -- returns-3
    (λ c. search rules)  -- add-within-3
    (λ c κs. search rules)  -- within-requires-2
    (λ c. let a = c.args in
    let free = sym c.holds_length.ensures ∙ c.if-holds_length.false in
    let payload = c.wide-payload.ensures.0 in
    let whole = to_its_end a.t a.s.now (omega arith) (λ holds. false_true (sym free ∙ holds)) in
    c.within-2.ensures ∙ rw (payload) (rw (held_none a.t a.s.now free, add-zero) at whole)))  -- returns-4
