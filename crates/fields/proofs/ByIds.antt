-- Over an accepted sorted dictionary ids increase exactly when the names do, so that the checks by ids and by names give the same answers.
-- Assumes nothing.
use Rattle.rules.proofs.Prelude.{◌≡◌, refl, ◌↔◌, true, false, List, ℕ, ◌-◌, ◌≤◌, ◌<◌, dec_lt, arith, first, each, Kept, pass, kept, stays_same, each_alike}
use Rattle.rules.proofs.Prelude.{◌&◌}
use Rattle.names.specs.Order.{Before}
use Rattle.names.proofs.Laws.{before_ne, before_asym, before_below, not_below}
use Rattle.dictionary.specs.Dictionary as dictionary
use Rattle.metadata.proofs.Names.{rising}
use Rattle.layer.specs.Object.{id, field_name, name_rules, id_rules}

module _ (d : List ℕ) (accepted : dictionary.checks d ≡ pass) (sorts : dictionary.sorted d ≡ true) where
  not_before : (i j : ℕ) → i < dictionary.count d → j ≤ i → Before (dictionary.name d i) (dictionary.name d j) → ⊥
  not_before i j p q b = go (dec_lt j i)
    where
      go : Dec (j < i) → ⊥
      go (yes w) = before_asym b (rising d accepted sorts j i w p)
      go (no w) = let z : i ≡ j = omega arith in before_ne b (rw z)

  -- ids increase exactly when the names do
  pub increase : (i j : ℕ) → i < dictionary.count d → j < dictionary.count d → (i < j) ↔ Before (dictionary.name d i) (dictionary.name d j)
  increase i j p q = (λ w. rising d accepted sorts i j w q, λ b. go b (dec_lt i j))
    where
      go : Before (dictionary.name d i) (dictionary.name d j) → Dec (i < j) → i < j
      go b (yes w) = w
      go b (no w) = absurd (not_before i j p (omega arith) b)

  -- a field's row by ids is its row by names, where the id before is an entry
  alike : (o : List ℕ) (k : ℕ) → (0 < k → id o (k - 1) < dictionary.count d) → Kept (λ _. false) (id_rules (dictionary.count d) o k) (name_rules d o k)
  unfolding id_rules name_rules field_name
  alike o k before =
      (refl, refl, (λ f. f), (λ h. h))
      & λ entry.
      (refl, refl, (λ f p. before_below (rising d accepted sorts (id o (k - 1)) (id o k) (f p) entry)), λ h. (h.0, not_below _ _ (not_before (id o (k - 1)) (id o k) (before h.0) h.1)))
      & λ _. tt

  -- THE THEOREM
  pub by_ids : (o : List ℕ) (n : ℕ) → first (each (id_rules (dictionary.count d) o) n) ≡ first (each (name_rules d o) n)
  unfolding id_rules
  by_ids o n =
      each_alike (id_rules (dictionary.count d) o) (name_rules d o) n λ k p passed.
      stays_same _ _ (kept (λ _. false) _ _ (alike o k (λ q. (passed (k - 1) (omega arith)).0)))
