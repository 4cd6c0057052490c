-- `spots::climb` meets its contract: the quotient is 1, or 0. Assumes nothing.
use Rattle.rules.proofs.Prelude.{◌≡◌, refl, cond, ℕ, ◌+◌, ◌-◌, ◌*◌, ◌/◌, ◌≤◌, ◌<◌, dec_lt, arith, lt-ltb, le-ltb, ltb}
use native.Mathlib.Nat.{mul-one, mul-zero}
use Rattle.spots.proofs.climb.Statement.{statement}
use Rattle.spots.proofs.climb.Tie as tie

abbrev keys : ℕ
keys = 9223372036854775808

climbed : (step key p : ℕ) → key < keys → p < keys → (step * ((keys + key - p) / keys) ≡ cond (ltb key p) 0 step) × (step * ((keys + key - p) / keys) ≤ step)
climbed step key p u v = go (dec_lt key p)
  where
    go : Dec (key < p) → (step * ((keys + key - p) / keys) ≡ cond (ltb key p) 0 step) × (step * ((keys + key - p) / keys) ≤ step)
    go (yes w) = let z : (keys + key - p) / keys ≡ 0 = omega arith in rw (z, lt-ltb key p w, mul-zero step) (refl, omega arith)
    go (no w) = let z : (keys + key - p) / keys ≡ 1 = omega arith in rw (z, le-ltb key p (omega arith), mul-one step) (refl, omega arith)

pub climb_spec : {M : Type 1} → statement M
climb_spec =
    tie.close
    (tie.spec
    (λ c. omega arith) (λ c. omega arith)
    (λ c. let a = c.args in omega (arith, (climbed a.step a.key a.p c.requires.0 c.requires.1).1))
    (λ c. let a = c.args in (climbed a.step a.key a.p c.requires.0 c.requires.1).0))  -- returns
