-- The ends pass exactly when all are good, and stop with 45 at k exactly when name k is the first whose end is not. Assumes nothing.
use Rattle.rules.proofs.Prelude.{◌≡◌, refl, sym, ◌∙◌, ◌↔◌, ◌⊎◌, ⊎_elim, inl, inr, List, ℕ, ◌+◌, ◌≤◌, ◌<◌, add-one, dec_lt, arith, length, Passed, pass, stop, ◌&◌, Meant}
use Rattle.rules.proofs.Prelude.{by_each, meant_map, meant_pass, meant_stop, each_pass, each_stop, first_at}
use Rattle.std.specs.Prelude.{Result, Ok, Err, ⊤}
use Rattle.run.specs.declared.BadName.{BadName}
use Rattle.run.specs.Run.{begin, end, end_rules, checks}
use Rattle.run.specs.Meaning.{GoodEnd, GoodEnds, BadEnd}
use Rattle.run.specs.Promises.{found_of, CheckPromise}

-- the next name begins where this one ends
pub next : (ends : List ℕ) (k : ℕ) → end ends k ≡ begin ends (k + 1)
unfolding begin
next ends k = rw (add-one k)

module _ (run ends : List ℕ) where
  passed_good : (k : ℕ) → Passed (end_rules run ends k) → GoodEnd run ends k
  unfolding end_rules
  passed_good k h = record { rises = h.0.0; inside = h.0.1 }

  good_passed : (k : ℕ) → GoodEnd run ends k → Passed (end_rules run ends k)
  unfolding end_rules
  good_passed k g = (g.rises, g.inside) & tt

  abbrev Is45 : ℕ → ℕ → Type 0
  Is45 c p = (45 ≡ c) × BadEnd run ends p

  pub checks_mean : Meant (GoodEnds run ends) Is45 (checks run ends)
  unfolding checks end_rules
  checks_mean =
      meant_map (λ all k q. passed_good k (all k q)) (λ c p b. b)
      (by_each Is45 (end_rules run ends) (length ends) λ k q all.
      (λ h. (refl, record { is_name = q; is_first = λ j r. passed_good j (all j r); is_bad = go k h (dec_lt (end ends k) (begin ends k)) })) & λ _. tt)
    where
      go : (k : ℕ) → (begin ends k ≤ end ends k → length run < end ends k) → Dec (end ends k < begin ends k)
          → (end ends k < begin ends k) ⊎ (length run < end ends k)
      go k h (yes p) = inl p
      go k h (no p) = inr (h (omega arith))

  -- THE THEOREMS
  pub good : (checks run ends ≡ pass) ↔ GoodEnds run ends
  unfolding checks
  good = (meant_pass checks_mean, λ g. each_pass (end_rules run ends) (length ends) (λ k q. good_passed k (g k q)))

  pub bad : (k : ℕ) → (checks run ends ≡ stop 45 k) ↔ BadEnd run ends k
  unfolding checks end_rules
  bad k = (
    λ e. (meant_stop checks_mean e).1,
    λ b. each_stop (end_rules run ends) k (length ends) (each_pass (end_rules run ends) k (λ j r. good_passed j (b.is_first j r)))
        (first_at 0 (end_rules run ends k) (λ f. ⊎_elim (λ p. absurd (omega arith)) (λ p. p) b.is_bad)) b.is_name,
  )

  -- and of what the code returns; the promise fixes it
  pub check_good : CheckPromise run ends (Ok tt) ↔ GoodEnds run ends
  check_good = (λ p. good.0 (sym p), λ g. sym (good.1 g))

  pub check_bad : (k : ℕ) → CheckPromise run ends (Err (record { number = k })) ↔ BadEnd run ends k
  check_bad k = (λ p. (bad k).0 (sym p), λ b. sym ((bad k).1 b))

  pub check_pinned : (r r' : Result ⊤ BadName) → CheckPromise run ends r → CheckPromise run ends r' → r ≡ r'
  check_pinned r r' a b = go r r' (a ∙ sym b)
    where
      go : (r r' : Result ⊤ BadName) → found_of r ≡ found_of r' → r ≡ r'
      go (Ok _) (Ok _) e = refl
      go (Ok _) (Err k) e = let z : ◌≡◌ {A = ℕ} 0 1 = cc in absurd (omega arith)
      go (Err k) (Ok _) e = let z : ◌≡◌ {A = ℕ} 0 1 = cc in absurd (omega arith)
      go (Err k) (Err j) e = let z : k.number ≡ j.number = cc in rw z
