-- An answer is given, and each refusal with its place, exactly when document 02 says so (the types of specs/Meaning.antt). Assumes nothing.
use Rattle.rules.proofs.Prelude.{◌≡◌, refl, ◌∙◌, ◌↔◌, List, [], ◌∷◌, ℕ, length, accept, refuse, pass, stop, ◌&◌}
use Rattle.rules.proofs.Prelude.{Meant, by_rows, meant_then, meant_map, meant_pass, meant_stop, stops, goes, refused, answered, turned_down, let_through, by_meaning, Answer}
use Rattle.given.proofs.Means as names
use Rattle.fill.specs.Bytes.{size}
use Rattle.fill.specs.Steps.{list_of}
use Rattle.write.specs.Writing.{size_rules, size_checks, checks, written}
use Rattle.write.specs.Meaning.{Refusal, Accepted}
use Rattle.write.specs.Meaning.Refusal.{bad_name, too_long, no_room}
use Rattle.write.proofs.Laws as laws

module _ (run ends room : List ℕ) where
  abbrev Says : Type 0
  Says = Accepted run ends room (length (list_of run ends)) (size (list_of run ends))

  -- EACH REFUSAL THAT IS DUE is given
  pub is_due : {c p : ℕ} → Refusal run ends room c p → checks run ends room ≡ stop c p
  unfolding checks
  is_due (bad_name {k = k} b) = stops _ ((names.bad run ends k).1 b)
  is_due (too_long g h) = goes _ ((names.good run ends).1 g) ∙ laws.too_long (list_of run ends) room h
  is_due (no_room g h k) = goes _ ((names.good run ends).1 g) ∙ laws.no_room (list_of run ends) room h k

  -- AND NO OTHER
  pub checks_mean : Meant Says (Refusal run ends room) (checks run ends room)
  unfolding checks size_checks
  checks_mean =
      meant_then (size_checks (list_of run ends) room)
      (meant_map (λ g. g) (λ c p b. let r : Refusal run ends room 45 p = bad_name b.1 in rw b.0 at r) (names.checks_mean run ends)) λ good.
      by_rows Says (Refusal run ends room) (size_rules (size (list_of run ends)) (length room))
      ((λ h. too_long good h) & λ f. (λ h. no_room good f h) & λ g. record { names = good; within = f; fits = g; counts = refl; ends_at = refl })

  pub all_pass : {n b : ℕ} → Accepted run ends room n b → checks run ends room ≡ pass
  unfolding checks
  all_pass a = goes _ ((names.good run ends).1 a.names) ∙ laws.has_room (list_of run ends) room a.within a.fits

  -- ONE WAY INTO AN ANSWER
  pub by_answer : (P : Answer → Type 0) → ((n b : ℕ) → Accepted run ends room n b → P (accept (n ∷ b ∷ []))) → ((c p : ℕ) → Refusal run ends room c p → P (refuse c p))
      → P (written run ends room)
  unfolding written
  by_answer P is_written is_refused = by_meaning P _ checks_mean (is_written _ _) is_refused

  -- THE THEOREMS
  pub refuses : (c p : ℕ) → (written run ends room ≡ refuse c p) ↔ Refusal run ends room c p
  unfolding written
  refuses c p =
      (λ v. meant_stop checks_mean (turned_down (checks run ends room) (length (list_of run ends)) (size (list_of run ends) ∷ []) v), λ r. refused _ (is_due r))

  pub accepts : (n b : ℕ) → (written run ends room ≡ accept (n ∷ b ∷ [])) ↔ Accepted run ends room n b
  unfolding written
  accepts n b = (
    λ v.
        let w = let_through (checks run ends room) (accept (length (list_of run ends) ∷ size (list_of run ends) ∷ [])) v in
        let a = meant_pass checks_mean w.0 in
        record { names = a.names; within = a.within; fits = a.fits; counts = cc w.1; ends_at = cc w.1 },
    λ a. rw (a.counts, a.ends_at) (answered _ (all_pass a)),
  )
