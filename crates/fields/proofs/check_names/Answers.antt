-- `fields::check_names` meets its contract: a field's rules are those of its name after the one before. Assumes nothing.
use Rattle.rules.proofs.Prelude.{◌≡◌, sym, ◌∙◌, ◌+◌, ◌-◌, arith, first_at, first_pass, each_none, each_more, each_stop}
use Rattle.layer.specs.Object.{field_name, name_rules}
use Rattle.fields.proofs.check_names.Goals as goal

pub loop-k-init : goal.loop-k-init
loop-k-init c = (record { rises = omega arith; inside = omega arith }, (λ p. absurd (omega arith)), each_none _)

pub returns-then-known-id : goal.returns-then-known-id
unfolding name_rules
returns-then-known-id c =
    let l = c.loop-k in
    let rows = name_rules c.args.dict.now c.args.object.now l.k in
    sym (each_stop _ l.k _ l.invariant.2 (first_at 0 rows (omega arith)) (omega arith))

pub returns-then-name_not_above : goal.returns-then-name_not_above
unfolding name_rules field_name
returns-then-name_not_above c =
    let l = c.loop-k in
    let rows = name_rules c.args.dict.now c.args.object.now l.k in
    let fault = c.if-name_not_above.ensures in
    let this = c.span_of-name.ensures.name_is in
    sym (each_stop _ l.k _ l.invariant.2 (first_at 1 rows (omega arith, (fault.0, rw (← l.invariant.1 fault.0, ← c.id_at-id.ensures.0, ← this) fault.1))) (omega arith))

pub loop-k-preserved : goal.loop-k-preserved
unfolding name_rules field_name
loop-k-preserved c =
    let l = c.loop-k in
    let rows = name_rules c.args.dict.now c.args.object.now l.k in
    let s = c.span_of-name.ensures in
    let fine = c.if-name_not_above.ensures in
    let k-is : l.k + 1 - 1 ≡ l.k = omega arith in (
      record { rises = s.rises; inside = s.inside },
      (λ p. rw k-is (s.name_is ∙ rw c.id_at-id.ensures.0)),
      each_more _ l.k l.invariant.2 ∙ first_pass rows (omega arith, ((λ p. rw (← l.invariant.1 p, ← c.id_at-id.ensures.0, ← s.name_is) (fine p)), tt)),
    )
