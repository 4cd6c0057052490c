-- The names pass exactly when all are good, and stop with 45 at k exactly when name k is the first that is not. Assumes nothing.
use Rattle.rules.proofs.Prelude.{◌≡◌, refl, sym, ◌↔◌, List, ℕ, arith, length, first, Passed, Cases, pass, stop, ◌&◌, Meant}
use Rattle.rules.proofs.Prelude.{by_each, by_rows, meant_map, meant_pass, meant_stop, each_pass, each_stop}
use Rattle.rules.proofs.Laws.Meant.{all_pass, one_stops}
use Rattle.rules.proofs.Prelude.{Found}
use Rattle.chars.proofs.Laws.{text_whole, text_all}
use Rattle.std.specs.Prelude.{Ok, Err}
use Rattle.run.specs.Run.{name, end_rules}
use Rattle.run.specs.Meaning.{GoodEnds}
use Rattle.given.specs.Given.{name_rules, checks}
use Rattle.given.specs.Meaning.{GoodName, GoodNames, BadName}
use Rattle.given.specs.Promises.{CheckPromise}

module _ (run ends : List ℕ) where
  pub good_passed : (k : ℕ) → GoodName run ends k → Passed (name_rules run ends k)
  unfolding name_rules end_rules name
  good_passed k g = (g.rises, g.inside) & omega (arith, text_whole (name run ends k) g.is_text) & tt

  passed_good : (k : ℕ) → Passed (name_rules run ends k) → GoodName run ends k
  unfolding name_rules end_rules name
  passed_good k h = record { rises = h.0.0; inside = h.0.1; is_text = text_all (name run ends k) h.1.0 }

  -- of one name
  abbrev Bad : ℕ → ℕ → ℕ → Type 0
  Bad k c p = (45 ≡ c) × (k ≡ p) × (GoodName run ends k → ⊥)

  name_cases : (k : ℕ) → Cases (GoodName run ends k) (Bad k) (name_rules run ends k)
  unfolding name_rules end_rules name
  name_cases k =
      (λ h. (refl, refl, λ g. omega (arith, h g.rises, g.inside)))
      & λ f. (λ h. (refl, refl, λ g. omega (arith, h, text_whole (name run ends k) g.is_text)))
      & λ t. record { rises = f.0; inside = f.1; is_text = text_all (name run ends k) t }

  pub bad_stops : (k : ℕ) → (GoodName run ends k → ⊥) → first (name_rules run ends k) ≡ stop 45 k
  bad_stops k n = go (first (name_rules run ends k)) (by_rows (GoodName run ends k) (Bad k) (name_rules run ends k) (name_cases k))
    where
      go : (f : Found) → Meant (GoodName run ends k) (Bad k) f → f ≡ stop 45 k
      go pass (all_pass g) = absurd (n g)
      go (stop c p) (one_stops b) = rw (b.0, b.1)

  abbrev Is45 : ℕ → ℕ → Type 0
  Is45 c p = (45 ≡ c) × BadName run ends p

  pub checks_mean : Meant (GoodNames run ends) Is45 (checks run ends)
  unfolding checks name_rules end_rules name
  checks_mean =
      meant_map (λ all k q. passed_good k (all k q)) (λ c p b. b)
      (by_each Is45 (name_rules run ends) (length ends) λ k q all.
      let due : (GoodName run ends k → ⊥) → Is45 45 k = λ n. (refl, record { is_name = q; is_first = λ j r. passed_good j (all j r); is_bad = n }) in
      (λ h. due (λ g. omega (arith, h g.rises, g.inside)))
      & λ f. (λ h. due (λ g. omega (arith, h, text_whole (name run ends k) g.is_text))) & λ t. tt)

  -- THE THEOREMS
  pub good : (checks run ends ≡ pass) ↔ GoodNames run ends
  unfolding checks
  good = (meant_pass checks_mean, λ g. each_pass (name_rules run ends) (length ends) (λ k q. good_passed k (g k q)))

  pub bad : (k : ℕ) → (checks run ends ≡ stop 45 k) ↔ BadName run ends k
  unfolding checks
  bad k = (
    λ e. (meant_stop checks_mean e).1,
    λ b. each_stop (name_rules run ends) k (length ends) (each_pass (name_rules run ends) k (λ j r. good_passed j (b.is_first j r))) (bad_stops k b.is_bad) b.is_name,
  )

  -- good names have good ends
  pub good_ends : GoodNames run ends → GoodEnds run ends
  good_ends g k q = record { rises = (g k q).rises; inside = (g k q).inside }

  -- and of what the code returns; the promise fixes it
  pub check_good : CheckPromise run ends (Ok tt) ↔ GoodNames run ends
  check_good = (λ p. good.0 (sym p), λ g. sym (good.1 g))

  pub check_bad : (k : ℕ) → CheckPromise run ends (Err (record { number = k })) ↔ BadName run ends k
  check_bad k = (λ p. (bad k).0 (sym p), λ b. sym ((bad k).1 b))
