-- `spots::probe` meets its contract: the key is that of the field's name. Assumes nothing.
use Rattle.rules.proofs.Prelude.{◌≡◌, List, ℕ, ◌+◌, ◌≤◌, ◌<◌, cond, dec_lt, arith, rules, add-zero, ltb, lt-ltb, le-ltb}
use Rattle.keys.specs.Steps.{KeyOf}
use Rattle.width.specs.Limits.{u32_max}
use Rattle.layer.specs.Object.{field_name}
use Rattle.layer.proofs.Laws.{count_below, entry_of}
use Rattle.spots.specs.Steps.{Probed}
use Rattle.spots.specs.Steps.Probed.{taken, kept}
use Rattle.spots.proofs.probe.Statement.{statement}
use Rattle.spots.proofs.probe.Tie as tie

probed : (name : List ℕ) (key at step p : ℕ) → KeyOf name p → {r : ℕ} → r ≡ cond (ltb key p) 0 step → Probed name key at step (at + r)
probed name key at step p is {r} e = go (dec_lt key p)
  where
    go : Dec (key < p) → Probed name key at step (at + r)
    go (yes w) = rw (e, lt-ltb key p w, add-zero at) (kept is w)
    go (no w) = rw (e, le-ltb key p (omega arith)) taken

-- so no step goes further
within : (key step p : ℕ) {r : ℕ} → r ≡ cond (ltb key p) 0 step → r ≤ step
within key step p {r} e = go (dec_lt key p)
  where
    go : Dec (key < p) → r ≤ step
    go (yes w) = rw (e, lt-ltb key p w) (omega arith)
    go (no w) = rw (e, le-ltb key p (omega arith)) (omega arith)

pub probe_spec : {M : Type 1} → statement M
unfolding u32_max field_name
probe_spec =
    tie.close
    (tie.spec
    (λ c. omega arith) (λ c κs. search rules)
    (λ c κs. let s = c in
    (s.requires.0.over, omega (arith, entry_of s.args.dict.now s.args.object.now s.requires.0.passes _ s.requires.1)))  -- span-of-requires
    (λ c κs. search rules)
    (λ c κs. (omega arith, c.key.ensures.small))  -- climb-requires
    (λ c. let s = c in
    let a = s.args in
    let up = within a.key a.step _ c.climb.ensures in
    let below : a.at + a.step < 4294967296 = omega (arith, s.requires.1, s.requires.0.layered.passes, count_below a.object.now) in
    omega (arith, up, below))  -- add-result
    (λ c. let a = c.args in
    let key_is = rw (c.span_of-name.ensures.name_is, c.id_at-id.ensures.0) at c.key.ensures in
    probed _ a.key a.at a.step _ key_is c.climb.ensures))  -- returns
