-- An object layer is accepted over a dictionary, with its field count, the region's start and the trimmed end, exactly when the rules of
-- document 01 hold of both (the record `Layer` of Meaning.antt of `layer`). Assumes nothing.
use Rattle.rules.proofs.Prelude.{◌≡◌, refl, ◌∙◌, ◌↔◌, List, [], ◌∷◌, ℕ, accept, pass, let_through, answered, goes, each_pass}
use Rattle.metadata.proofs.Accepts as dictionary-accepts
use Rattle.layer.specs.Object.{count, layer, name_rules, offset_rules, checks, verdict, verdict_within}
use Rattle.layer.specs.Meaning.{Layer}
use Rattle.layer.proofs.Laws.{by_names}
use Rattle.object.proofs.Means.{head_passed, good_passed, inside_passed, good}

module _ (d o : List ℕ) (n v e : ℕ) where
  rules_hold : verdict d o ≡ accept (n ∷ v ∷ e ∷ []) → Layer d o n v e
  unfolding verdict_within
  rules_hold a =
      let through = let_through (checks d o) (layer o) a in
      let rules = good d o through.0 in
      record { named = rules.named; offsets = rules.offsets; counts = cc; starts = cc; ends = cc }

  pub all_pass : Layer d o n v e → checks d o ≡ pass
  all_pass r =
      let headed = r.named.headed in
      by_names d o (dictionary-accepts.all_pass d _ _ headed.placed.counted.typed.sized.over) (head_passed d o headed)
      (each_pass (name_rules d o) (count o) (λ k p. good_passed d o k (r.named.names k p)))
      ∙ goes _ refl
      ∙ each_pass (offset_rules o) (count o) (λ k p. inside_passed d o k (r.offsets k p))

  is_accepted : Layer d o n v e → verdict d o ≡ accept (n ∷ v ∷ e ∷ [])
  unfolding verdict_within
  is_accepted r = rw (r.counts, r.starts, r.ends) (answered _ (all_pass r))

-- THE THEOREM
pub accepts : (d o : List ℕ) (n v e : ℕ) → (verdict d o ≡ accept (n ∷ v ∷ e ∷ [])) ↔ Layer d o n v e
accepts d o n v e = (rules_hold d o n v e, is_accepted d o n v e)
