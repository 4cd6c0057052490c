-- `lookup::compare_field` meets its contract: the name of the field is the dictionary's at its id. Assumes nothing.
use Rattle.rules.proofs.Prelude.{◌∙◌, arith, rules}
use Rattle.layer.specs.Object.{field_name}
use Rattle.layer.proofs.Laws.{entry_of}
use Rattle.lookup.proofs.compare_field.Statement.{statement}
use Rattle.lookup.proofs.compare_field.Tie as tie

pub compare_field_spec : {M : Type 1} → statement M
unfolding field_name
compare_field_spec =
    tie.close
    (tie.spec
    (λ c κs. search rules)  -- id-at-requires
    (λ c κs. let s = c in
    (s.requires.0.over, omega (arith, entry_of s.args.dict.now s.args.object.now s.requires.0.passes s.args.k s.requires.1)))  -- span-of-requires
    (λ c. search rules) (λ c. search rules) (λ c. search rules) (λ c κs. search rules)
    (λ c. c.compare.ensures ∙ rw (c.span_of-field.ensures.name_is, c.id_at-id.ensures.0)))  -- returns
