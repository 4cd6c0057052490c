-- `fields::check_fields` meets its contract: over a sorted dictionary the ids tell. Assumes nothing.
use Rattle.rules.proofs.Prelude.{sym, ◌∙◌, rules}
use Rattle.fields.proofs.ByIds.{by_ids}
use Rattle.fields.proofs.check_fields.Statement.{statement}
use Rattle.fields.proofs.check_fields.Tie as tie

pub check_fields_spec : {M : Type 1} → statement M
check_fields_spec =
    tie.close
    (tie.spec
    (λ c κs. search rules)  -- check-ids-requires
    (λ c. let s = c in
    let header = s.requires.0.0 in
    rw header.count_is at c.check_ids.ensures
    ∙ by_ids s.args.dict.now s.requires.0.1 (sym header.sorted_is ∙ c.if-h.true) s.args.object.now _)  -- returns
    (λ c κs. search rules)  -- check-names-requires
    (λ c. search rules))  -- returns-2
