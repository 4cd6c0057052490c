-- 26 is not given exactly when no two numbers have one name, and is given at k exactly when k is the first whose name an earlier one has.
-- Assumes nothing.
use Rattle.rules.proofs.Prelude.{◌≡◌, refl, sym, ap, ◌∙◌, ◌↔◌, true, false, List, ℕ, ◌<◌, arith, first, each, pass, stop, ◌&◌, Meant, first_at}
use Rattle.rules.proofs.Prelude.{by_each, meant_map, meant_pass, meant_stop, each_pass, each_stop, false_true}
use Rattle.names.specs.Search.{Sought, seek}
use Rattle.names.specs.Search.Sought.{nowhere, here}
use Rattle.names.proofs.Search.{seek_at, seek_nowhere, seek_none}
use Rattle.sets.specs.Sets.{Distinct, Numbered}
use Rattle.doubles.specs.Doubles.{is_there, seen, double_rules, checks, Double}

module _ (name : ℕ → List ℕ) where
  -- WHETHER IT WAS SEEN
  module _ (k : ℕ) where
    pub seen_earlier : seen name k ≡ true → Numbered name 0 k (name k)
    unfolding seen
    seen_earlier e = go (seek name (name k) k) refl e
      where
        go : (s : Sought) → seek name (name k) k ≡ s → is_there s ≡ true → Numbered name 0 k (name k)
        go nowhere f e = let z : ◌≡◌ {A = ℕ} 0 1 = cc in absurd (omega arith)
        go (here j) f e = let w = seek_at name (name k) k j f in record { number = j; low = omega arith; high = omega (arith, w.0); name_is = w.1 }

    pub earlier_seen : Numbered name 0 k (name k) → seen name k ≡ true
    unfolding seen
    earlier_seen w = go (seek name (name k) k) refl
      where
        go : (s : Sought) → seek name (name k) k ≡ s → is_there s ≡ true
        go nowhere f = absurd (seek_nowhere name (name k) k f w.number (omega (arith, w.high)) w.name_is)
        go (here j) f = refl

    pub not_seen : (Numbered name 0 k (name k) → ⊥) → seen name k ≡ false
    unfolding seen
    not_seen n = ap is_there (seek_none name (name k) k (λ j p e. n record { number = j; low = omega arith; high = omega arith; name_is = e }))

  -- no name before n was seen: so no two are one
  distinct_all : (n : ℕ) → ((k : ℕ) → k < n → seen name k ≡ false) → Distinct name 0 n
  distinct_all n h i j a b c e = false_true (sym (h j (omega arith)) ∙ earlier_seen j record { number = i; low = a; high = omega arith; name_is = e })

  all_new : (n : ℕ) → Distinct name 0 n → (k : ℕ) → k < n → seen name k ≡ false
  all_new n d k p = not_seen k (λ w. d w.number k w.low (omega (arith, w.high)) (omega arith) w.name_is)

  pub none_seen : (n : ℕ) → Distinct name 0 n → first (each (double_rules name) n) ≡ pass
  unfolding double_rules
  none_seen n d = each_pass (double_rules name) n (λ k p. all_new n d k p & tt)

  module _ (n : ℕ) where
    abbrev Is26 : ℕ → ℕ → Type 0
    Is26 c p = (26 ≡ c) × Double name n p

    pub checks_mean : Meant (Distinct name 0 n) Is26 (checks name n)
    unfolding checks double_rules
    checks_mean =
        meant_map (λ all. distinct_all n (λ k p. (all k p).0)) (λ c p b. b)
        (by_each Is26 (double_rules name) n λ k q all.
        (λ h. (refl, record { inside = q; is_first = distinct_all k (λ j p. (all j p).0); earlier = seen_earlier k h })) & λ _. tt)

    -- THE THEOREMS
    pub good : (checks name n ≡ pass) ↔ Distinct name 0 n
    unfolding checks
    good = (meant_pass checks_mean, none_seen n)

    pub bad : (k : ℕ) → (checks name n ≡ stop 26 k) ↔ Double name n k
    unfolding checks double_rules
    bad k = (
      λ e. (meant_stop checks_mean e).1,
      λ b. each_stop (double_rules name) k n (none_seen k b.is_first) (first_at 0 (double_rules name k) (earlier_seen k b.earlier)) b.inside,
    )
