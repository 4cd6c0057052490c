-- `spots::spots` meets its contract: the spots that were found before, or four of a search. Assumes nothing.
use Rattle.rules.proofs.Prelude.{◌≡◌, List, ℕ, ◌+◌, ◌-◌, ◌≤◌, ◌<◌, cond, dec_lt, arith, lt-ltb, le-ltb, length, get_or, ltb}
use Rattle.run.specs.Run.{begin as begin_of, name}
use Rattle.run.specs.Meaning.{GoodEnds}
use Rattle.run.proofs.Means.{next}
use Rattle.spots.proofs.spots.Statement.{statement}
use Rattle.spots.proofs.spots.Tie as tie

-- where name j ends, and past the last name where the last ends
abbrev EndAt : List ℕ → ℕ → ℕ → Type 0
EndAt ends j r = r ≡ cond (ltb j (length ends)) (get_or ends j 0) (get_or ends (length ends - 1) 0)

module _ (names ends : List ℕ) (good : GoodEnds names ends) (j : ℕ) where
  own_end : j < length ends → {r : ℕ} → EndAt ends j r → r ≡ get_or ends j 0
  own_end p e = rw (lt-ltb j (length ends) p) at e

  last_end : length ends ≤ j + 1 → {r : ℕ} → EndAt ends j r → r ≡ get_or ends (length ends - 1) 0
  last_end p {r} e = go (dec_lt j (length ends))
    where
      go : Dec (j < length ends) → r ≡ get_or ends (length ends - 1) 0
      go (yes q) = let is : j ≡ length ends - 1 = omega arith in rw is at (own_end q e)
      go (no q) = rw (le-ltb j (length ends) (omega arith)) at e

-- the ends of two names, one after the other
module _ (names ends : List ℕ) (good : GoodEnds names ends) (some : 0 < length ends) (j i : ℕ) (follows : i ≡ j + 1) where
  after : {r t : ℕ} → EndAt ends j r → EndAt ends i t → (r ≤ t) × (t ≤ length names) × (i < length ends → (r ≡ begin_of ends i) × (t ≡ get_or ends i 0))
  after {r} {t} e f = go (dec_lt i (length ends))
    where
      go : Dec (i < length ends) → (r ≤ t) × (t ≤ length names) × (i < length ends → (r ≡ begin_of ends i) × (t ≡ get_or ends i 0))
      go (yes q) =
          let begins : r ≡ begin_of ends i = rw follows (rw (next ends j) at (own_end names ends good j (omega arith) e)) in
          let ends_is = own_end names ends good i q f in
          let h = good i q in (omega (arith, begins, ends_is, h.rises), omega (arith, ends_is, h.inside), λ _. (begins, ends_is))
      go (no q) =
          let same = last_end names ends good j (omega arith) e in
          let last = last_end names ends good i (omega arith) f in
          (omega (arith, same, last), omega (arith, last, (good (length ends - 1) (omega arith)).inside), λ u. absurd (q u))

pub spots_spec : {M : Type 1} → statement M
unfolding name
spots_spec =
    tie.close
    (tie.spec
    (λ c. let s = c in let a = s.requires.3 in record {
      this = a.this (omega arith) s.requires.2.is_name;
      next = λ p. a.next (omega arith) p;
      third = λ p. a.third (omega arith);
      fourth = λ p. absurd (omega arith);
    })  -- returns
    (λ c κs. omega (arith, c.requires.2.is_name))  -- end-at-requires
    (λ c. let s = c in omega (arith, s.requires.2.is_name, s.well_formed))  -- add-end-at
    (λ c κs. omega (arith, c.requires.2.is_name))  -- end-at-requires-2
    (λ c. let s = c in omega (arith, s.requires.2.is_name, s.well_formed))  -- add-end-at-2
    (λ c κs. omega (arith, c.requires.2.is_name))  -- end-at-requires-3
    (λ c. let s = c in omega (arith, s.requires.2.is_name, s.well_formed))  -- add-end-at-3
    (λ c κs. omega (arith, c.requires.2.is_name))  -- end-at-requires-4
    (λ c. let s = c in
    let p = own_end _ _ s.requires.1 _ s.requires.2.is_name c.end_at-p.ensures in let g = s.requires.1 _ s.requires.2.is_name in
    omega (arith, p, g.rises, s.requires.2.begins))  -- sub-first
    (λ c. let s = c in
    let p = own_end _ _ s.requires.1 _ s.requires.2.is_name c.end_at-p.ensures in let g = s.requires.1 _ s.requires.2.is_name in
    omega (arith, p, g.rises, s.requires.2.begins))  -- part-first-start
    (λ c. let s = c in
    let p = own_end _ _ s.requires.1 _ s.requires.2.is_name c.end_at-p.ensures in let g = s.requires.1 _ s.requires.2.is_name in
    omega (arith, p, g.inside))  -- part-first-end
    (λ c. let s = c in
    let e = after _ _ s.requires.1 (omega (arith, s.requires.2.is_name)) _ _ (omega arith) c.end_at-p.ensures
    c.end_at-q.ensures in omega (arith, e.0))  -- sub-second
    (λ c. let s = c in
    let e = after _ _ s.requires.1 (omega (arith, s.requires.2.is_name)) _ _ (omega arith) c.end_at-p.ensures
    c.end_at-q.ensures in omega (arith, e.0))  -- part-second-start
    (λ c. let s = c in
    let e = after _ _ s.requires.1 (omega (arith, s.requires.2.is_name)) _ _ (omega arith) c.end_at-p.ensures
    c.end_at-q.ensures in omega (arith, e.1))  -- part-second-end
    (λ c. let s = c in
    let e = after _ _ s.requires.1 (omega (arith, s.requires.2.is_name)) _ _ (omega arith) c.end_at-q.ensures
    c.end_at-r.ensures in omega (arith, e.0))  -- sub-third
    (λ c. let s = c in
    let e = after _ _ s.requires.1 (omega (arith, s.requires.2.is_name)) _ _ (omega arith) c.end_at-q.ensures
    c.end_at-r.ensures in omega (arith, e.0))  -- part-third-start
    (λ c. let s = c in
    let e = after _ _ s.requires.1 (omega (arith, s.requires.2.is_name)) _ _ (omega arith) c.end_at-q.ensures
    c.end_at-r.ensures in omega (arith, e.1))  -- part-third-end
    (λ c. let s = c in
    let e = after _ _ s.requires.1 (omega (arith, s.requires.2.is_name)) _ _ (omega arith) c.end_at-r.ensures
    c.end_at-s.ensures in omega (arith, e.0))  -- sub-narrow
    (λ c. let s = c in
    let e = after _ _ s.requires.1 (omega (arith, s.requires.2.is_name)) _ _ (omega arith) c.end_at-r.ensures
    c.end_at-s.ensures in omega (arith, e.0))  -- part-narrow-start
    (λ c. let s = c in
    let e = after _ _ s.requires.1 (omega (arith, s.requires.2.is_name)) _ _ (omega arith) c.end_at-r.ensures
    c.end_at-s.ensures in omega (arith, e.1))  -- part-narrow-end
    (λ c κs. c.requires.0)  -- narrow-requires
    (λ c. let s = c in
    let p = own_end _ _ s.requires.1 _ s.requires.2.is_name c.end_at-p.ensures in
    let q = after _ _ s.requires.1 (omega (arith, s.requires.2.is_name)) _ _ (omega arith) c.end_at-p.ensures
    c.end_at-q.ensures in
    let r = after _ _ s.requires.1 (omega (arith, s.requires.2.is_name)) _ _ (omega arith) c.end_at-q.ensures
    c.end_at-r.ensures in
    let t = after _ _ s.requires.1 (omega (arith, s.requires.2.is_name)) _ _ (omega arith) c.end_at-r.ensures
    c.end_at-s.ensures in
    record {
      this = rw (s.requires.2.begins, p) at c.narrow.ensures.0;
      next = λ _ u. rw (← (q.2 u).0, ← (q.2 u).1) c.narrow.ensures.1;
      third = λ _ u. rw (← (r.2 u).0, ← (r.2 u).1) c.narrow.ensures.2;
      fourth = λ _ u. rw (← (t.2 u).0, ← (t.2 u).1) c.narrow.ensures.3;
    }))  -- returns-2
