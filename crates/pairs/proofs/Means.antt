-- Each of 25, 45 and 28 is given at k exactly when pair k is the first for which it is due, and not given exactly when it is due for none.
-- Assumes nothing.
use Rattle.rules.proofs.Prelude.{◌≡◌, refl, ◌↔◌, ◌⊎◌, ⊎_elim, inl, inr, List, ℕ, ◌≤◌, ◌<◌, dec_lt, arith, length, Passed, pass, stop, ◌&◌, Meant}
use Rattle.rules.proofs.Prelude.{by_each, meant_map, meant_pass, meant_stop, each_pass, each_stop, first_at}
use Rattle.source.specs.Pairs.{pairs, from, to}
use Rattle.source.specs.Names.{Entries, GoodRange, GoodRanges}
use Rattle.pairs.specs.Checks.{id_rules, id_checks, range_rules, range_checks, empty_rules, empty_checks}
use Rattle.pairs.specs.Meaning.{SomeBytes, NoEntry, BadRange, EmptyChild}

-- 25
module _ (d words : List ℕ) where
  pub ids_mean : Meant (Entries d words) (λ c p. (25 ≡ c) × NoEntry d words p) (id_checks d words)
  unfolding id_checks id_rules
  ids_mean =
      meant_map (λ all k q. (all k q).0) (λ c p b. b)
      (by_each (λ c p. (25 ≡ c) × NoEntry d words p) (id_rules d words) (pairs words) λ k q all.
      (λ h. (refl, record { is_pair = q; is_first = λ j r. (all j r).0; beyond = h })) & λ _. tt)

  pub ids_good : (id_checks d words ≡ pass) ↔ Entries d words
  unfolding id_checks id_rules
  ids_good = (meant_pass ids_mean, λ g. each_pass (id_rules d words) (pairs words) (λ k q. g k q & tt))

  pub ids_bad : (k : ℕ) → (id_checks d words ≡ stop 25 k) ↔ NoEntry d words k
  unfolding id_checks id_rules
  ids_bad k = (
    λ e. (meant_stop ids_mean e).1,
    λ b. each_stop (id_rules d words) k (pairs words) (each_pass (id_rules d words) k (λ j r. b.is_first j r & tt)) (first_at 0 (id_rules d words k) b.beyond) b.is_pair,
  )

-- 45
module _ (bytes words : List ℕ) where
  pub ranges_mean : Meant (GoodRanges bytes words) (λ c p. (45 ≡ c) × BadRange bytes words p) (range_checks bytes words)
  unfolding range_checks range_rules
  ranges_mean =
      meant_map (λ all k q. record { rises = (all k q).0.0; inside = (all k q).0.1 }) (λ c p b. b)
      (by_each (λ c p. (45 ≡ c) × BadRange bytes words p) (range_rules bytes words) (pairs words) λ k q all.
      (λ h. (refl, record { is_pair = q; is_first = λ j r. record { rises = (all j r).0.0; inside = (all j r).0.1 }; is_bad = go k h (dec_lt (to words k) (from words k)) })) & λ _. tt)
    where
      go : (k : ℕ) → (from words k ≤ to words k → length bytes < to words k) → Dec (to words k < from words k)
          → (to words k < from words k) ⊎ (length bytes < to words k)
      go k h (yes p) = inl p
      go k h (no p) = inr (h (omega arith))

  range_passed : (k : ℕ) → GoodRange bytes words k → Passed (range_rules bytes words k)
  unfolding range_rules
  range_passed k g = (g.rises, g.inside) & tt

  pub ranges_good : (range_checks bytes words ≡ pass) ↔ GoodRanges bytes words
  unfolding range_checks
  ranges_good = (meant_pass ranges_mean, λ g. each_pass (range_rules bytes words) (pairs words) (λ k q. range_passed k (g k q)))

  pub ranges_bad : (k : ℕ) → (range_checks bytes words ≡ stop 45 k) ↔ BadRange bytes words k
  unfolding range_checks range_rules
  ranges_bad k = (
    λ e. (meant_stop ranges_mean e).1,
    λ b. each_stop (range_rules bytes words) k (pairs words) (each_pass (range_rules bytes words) k (λ j r. range_passed j (b.is_first j r)))
        (first_at 0 (range_rules bytes words k) (λ f. ⊎_elim (λ p. absurd (omega arith)) (λ p. p) b.is_bad)) b.is_pair,
  )

-- 28
module _ (words : List ℕ) where
  pub empties_mean : Meant (SomeBytes words) (λ c p. (28 ≡ c) × EmptyChild words p) (empty_checks words)
  unfolding empty_checks empty_rules
  empties_mean =
      meant_map (λ all k q. (all k q).0) (λ c p b. b)
      (by_each (λ c p. (28 ≡ c) × EmptyChild words p) (empty_rules words) (pairs words) λ k q all.
      (λ h. (refl, record { is_pair = q; is_first = λ j r. (all j r).0; empty = h })) & λ _. tt)

  pub empties_good : (empty_checks words ≡ pass) ↔ SomeBytes words
  unfolding empty_checks empty_rules
  empties_good = (meant_pass empties_mean, λ g. each_pass (empty_rules words) (pairs words) (λ k q. g k q & tt))

  pub empties_bad : (k : ℕ) → (empty_checks words ≡ stop 28 k) ↔ EmptyChild words k
  unfolding empty_checks empty_rules
  empties_bad k = (
    λ e. (meant_stop empties_mean e).1,
    λ b. each_stop (empty_rules words) k (pairs words) (each_pass (empty_rules words) k (λ j r. b.is_first j r & tt)) (first_at 0 (empty_rules words k) b.empty) b.is_pair,
  )
