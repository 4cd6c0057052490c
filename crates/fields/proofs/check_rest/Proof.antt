-- `fields::check_rest` meets its contract: the table of names, then that of offsets. Assumes nothing.
use Rattle.rules.proofs.Prelude.{◌≡◌, refl, sym, ◌∙◌, List, ℕ, rules, Found, first, each, Passed, pass, stops, goes}
use Rattle.std.specs.Prelude.{Result, Err, ⊤}
use Rattle.std.specs.Result.{IsErrAnd}
use Rattle.dictionary.specs.Dictionary as dictionary
use Rattle.layout.proofs.Results.{raised}
use Rattle.layer.specs.declared.Refusal.{Refusal}
use Rattle.layer.specs.Object.{count, head_rules, name_rules, offset_rules, checks}
use Rattle.layer.specs.Steps.{stop_of}
use Rattle.layer.proofs.Laws.{by_names}
use Rattle.columns.specs.Steps.{found_of}
use Rattle.fields.proofs.check_rest.Statement.{statement}
use Rattle.fields.proofs.check_rest.Tie as tie

module _ (d o : List ℕ) (over : dictionary.checks d ≡ pass) (header : Passed (head_rules o)) where
  stopped : (x : Result ⊤ Refusal) (r : Refusal) → IsErrAnd x (λ f. f ≡ r) → stop_of r ≡ first (each (name_rules d o) (count o)) → found_of x ≡ checks d o
  stopped x r is e = let same : x ≡ Err r = raised x is in rw same (sym (by_names d o over header (sym e) ∙ stops _ refl))

  passed : {f : Found} → pass ≡ first (each (name_rules d o) (count o)) → f ≡ first (each (offset_rules o) (count o)) → f ≡ checks d o
  passed e h = h ∙ sym (by_names d o over header (sym e) ∙ goes _ refl)

pub check_rest_spec : {M : Type 1} → statement M
check_rest_spec =
    tie.close
    (tie.spec
    (λ c κs. search rules)  -- check-fields-requires
    (λ c κs. search rules) (λ c. search rules) (λ c. search rules) (λ c κs. search rules)
    (λ c. stopped _ _ c.requires.0.1 c.requires.1.passes _ _ c.from_residual.ensures.1 (search rules))  -- returns
    (λ c κs. search rules)  -- check-offsets-requires
    (λ c. let s = c in search (rules, passed _ _ s.requires.0.1 s.requires.1.passes)))  -- returns-2
