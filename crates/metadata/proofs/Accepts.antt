-- A dictionary is accepted, with its entry count and its trimmed end, exactly when the rules of document 01 hold of it (the record
-- `Dictionary` of dictionary/specs/Meaning.antt). Assumes nothing.
use Rattle.rules.proofs.Prelude.{◌≡◌, ◌∙◌, ◌↔◌, List, [], ◌∷◌, ℕ, accept, pass, let_through, answered, each_pass}
use Rattle.dictionary.specs.Dictionary.{count, end, entry_rules, checks, verdict, verdict_within}
use Rattle.dictionary.specs.Meaning.{Dictionary}
use Rattle.metadata.proofs.Means.{by_entries, good_passed, good}

module _ (d : List ℕ) (n e : ℕ) where
  rules_hold : verdict d ≡ accept (n ∷ e ∷ []) → Dictionary d n e
  unfolding verdict_within
  rules_hold v =
      let through = let_through (checks d) (accept (count d ∷ end d ∷ [])) v in
      let rules = good d through.0 in
      record { texted = rules.texted; entries = rules.entries; counts = cc; ends = cc }

  pub all_pass : Dictionary d n e → checks d ≡ pass
  all_pass r = by_entries d r.texted ∙ each_pass (entry_rules d) (count d) (λ k p. good_passed d k (r.entries k p))

  is_accepted : Dictionary d n e → verdict d ≡ accept (n ∷ e ∷ [])
  unfolding verdict_within
  is_accepted r = rw (r.counts, r.ends) (answered _ (all_pass r))

-- THE THEOREM
pub accepts : (d : List ℕ) (n e : ℕ) → (verdict d ≡ accept (n ∷ e ∷ [])) ↔ Dictionary d n e
accepts d n e = (rules_hold d n e, is_accepted d n e)
