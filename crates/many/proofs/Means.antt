-- Many names are answered exactly when their ends are good, the layer is accepted and there is room; 45, a refusal of the dictionary or the
-- layer, and 41 are said exactly when they are due. No names ask for the verdict alone. Assumes nothing.
use Rattle.rules.proofs.Prelude.{◌≡◌, refl, sym, ◌∙◌, ◌↔◌, ◌⊎◌, ⊎_elim, inl, inr, List, [], ◌∷◌, ◌++◌, ℕ, ◌*◌, arith, length, drop, Answer, accept, refuse, ◌<?◌, Found}
use Rattle.rules.proofs.Prelude.{◌⇒◌at◌, pass, stop, Meant, answered, refused, goes, stops, first_at, first_pass, by_rows, meant_then, meant_map, by_meaning, each, each_none}
use Rattle.rules.proofs.Prelude.{first, unless_refused, ◌or_else◌}
use Rattle.rules.proofs.Rows.{rows_none}
use Rattle.run.specs.Run as run
use Rattle.run.specs.Meaning.{BadEnd}
use Rattle.run.proofs.Means as run-means
use Rattle.layer.specs.Object.{count, start, end, checks, verdict, verdict_within}
use Rattle.object.proofs.Means.{checks_mean}
use Rattle.object.proofs.Accepts.{all_pass}
use Rattle.object.proofs.Refuses.{is_due}
use Rattle.object.proofs.Fits.{checks_code}
use Rattle.many.specs.Many.{row, many_checks, many_checks_within, lookups, lookups_within, rows_after, rows_after_within}
use Rattle.many.specs.Meaning.{Answered, NoRoom, RefusedAfter}

module _ (d o names ends words : List ℕ) where
  -- WHAT IS SO OF EACH CASE IS SO OF THE ANSWER
  abbrev Ours : ℕ → ℕ → Type 0
  Ours c p = ((45 ≡ c) × BadEnd names ends p) ⊎ (RefusedAfter d o names ends c p ⊎ (NoRoom d o names ends words × (41 ≡ c) × (0 ≡ p)))

  many_mean : Meant (Answered d o names ends words (count o) (start o) (end o)) Ours (many_checks d o names ends words)
  unfolding many_checks_within
  many_mean =
      meant_then _ (meant_map (λ g. g) (λ c p. inl) (run-means.checks_mean names ends)) λ g.
      meant_then _ (meant_map (λ a. a) (λ c p r. inr (inl (record { good = g; due = r }))) (checks_mean d o)) λ a.
      by_rows _ Ours ((length words <? 5 * length ends ⇒ 41 at 0) ∷ [])
      ((λ h. inr (inr (record { good = g; accepted = a; short = h }, refl, refl))), λ f. record { good = g; accepted = a; room = f })

  pub by_answer : (P : Answer → Type 0) → ((n v e : ℕ) → Answered d o names ends words n v e → P (accept (n ∷ v ∷ e ∷ []))) → ((k : ℕ) → BadEnd names ends k → P (refuse 45 k))
      → (NoRoom d o names ends words → P (refuse 41 0)) → ((c p : ℕ) → RefusedAfter d o names ends c p → P (refuse c p)) → P (lookups d o names ends words)
  unfolding lookups_within
  by_answer P is-answered is_bad is-full is_refused =
      by_meaning P _ many_mean (is-answered _ _ _) λ c p r.
      ⊎_elim (λ b. rw b.0 at (is_bad p b.1)) (λ s. ⊎_elim (is_refused c p) (λ f. rw (f.1, f.2) at (is-full f.0)) s) r

  -- EACH ANSWER'S CHECKS
  pub all_answered : (n v e : ℕ) → Answered d o names ends words n v e → many_checks d o names ends words ≡ pass
  unfolding many_checks_within
  all_answered n v e a =
      goes _ ((run-means.good names ends).1 a.good) ∙ goes _ (all_pass d o n v e a.accepted) ∙ first_pass _ (a.room, tt)

  pub bad_end_stops : {k : ℕ} → BadEnd names ends k → many_checks d o names ends words ≡ stop 45 k
  unfolding many_checks_within
  bad_end_stops {k} b = stops _ ((run-means.bad names ends k).1 b)

  pub no_room_stops : NoRoom d o names ends words → many_checks d o names ends words ≡ stop 41 0
  unfolding many_checks_within
  no_room_stops r = goes _ ((run-means.good names ends).1 r.good) ∙ goes _ (all_pass d o _ _ _ r.accepted) ∙ first_at 0 _ r.short

  pub refusal_stops : {c p : ℕ} → RefusedAfter d o names ends c p → many_checks d o names ends words ≡ stop c p
  unfolding many_checks_within
  refusal_stops r = goes _ ((run-means.good names ends).1 r.good) ∙ stops _ (is_due d o r.due)

  -- THE WORDS OF EACH ANSWER
  pub words_answered : (n v e : ℕ) → Answered d o names ends words n v e → rows_after d o names ends words ≡ each (row d o names ends) (length ends) ++ drop (5 * length ends) words
  unfolding rows_after_within
  words_answered n v e a = rw (all_answered n v e a)

  pub words_bad_end : {k : ℕ} → BadEnd names ends k → rows_after d o names ends words ≡ words
  unfolding rows_after_within
  words_bad_end b = rw (bad_end_stops b)

  pub words_no_room : NoRoom d o names ends words → rows_after d o names ends words ≡ words
  unfolding rows_after_within
  words_no_room r = rw (no_room_stops r)

  pub words_refused : {c p : ℕ} → RefusedAfter d o names ends c p → rows_after d o names ends words ≡ words
  unfolding rows_after_within
  words_refused r = rw (refusal_stops r)

  -- THE THEOREMS
  pub answered_is : (n v e : ℕ) → (lookups d o names ends words ≡ accept (n ∷ v ∷ e ∷ [])) ↔ Answered d o names ends words n v e
  unfolding lookups_within
  answered_is n v e = (
    by_answer (λ x. x ≡ accept (n ∷ v ∷ e ∷ []) → Answered d o names ends words n v e)
        (λ m s t a q. let n-is : m ≡ n = cc in let v-is : s ≡ v = cc in let e-is : t ≡ e = cc in rw (n-is, v-is, e-is) at a)
        (λ k _ q. let z : ◌≡◌ {A = ℕ} 0 1 = cc in absurd (omega arith)) (λ _ q. let z : ◌≡◌ {A = ℕ} 0 1 = cc in absurd (omega arith))
        (λ c p _ q. let z : ◌≡◌ {A = ℕ} 0 1 = cc in absurd (omega arith)),
    λ a. let l = a.accepted in rw (l.counts, l.starts, l.ends) (answered _ (all_answered n v e a)),
  )

  pub bad_end_is : (k : ℕ) → (lookups d o names ends words ≡ refuse 45 k) ↔ BadEnd names ends k
  unfolding lookups_within
  bad_end_is k = (
    by_answer (λ x. x ≡ refuse 45 k → BadEnd names ends k) (λ n v e _ q. let z : ◌≡◌ {A = ℕ} 0 1 = cc in absurd (omega arith))
        (λ j b q. let k-is : j ≡ k = cc in rw k-is at b) (λ _ q. let z : ◌≡◌ {A = ℕ} 41 45 = cc in absurd (omega arith))
        (λ c p r q. let z : c ≡ 45 = cc in absurd (omega (arith, checks_code d o (is_due d o r.due)))),
    λ b. refused _ (bad_end_stops b),
  )

  pub no_room_is : (lookups d o names ends words ≡ refuse 41 0) ↔ NoRoom d o names ends words
  unfolding lookups_within
  no_room_is = (
    by_answer (λ x. x ≡ refuse 41 0 → NoRoom d o names ends words) (λ n v e _ q. let z : ◌≡◌ {A = ℕ} 0 1 = cc in absurd (omega arith))
        (λ k _ q. let z : ◌≡◌ {A = ℕ} 45 41 = cc in absurd (omega arith)) (λ r q. r)
        (λ c p r q. let z : c ≡ 41 = cc in absurd (omega (arith, checks_code d o (is_due d o r.due)))),
    λ r. refused _ (no_room_stops r),
  )

  pub refused_is : (c p : ℕ) → (c ≡ 41 → ⊥) → (c ≡ 45 → ⊥) → (lookups d o names ends words ≡ refuse c p) ↔ RefusedAfter d o names ends c p
  unfolding lookups_within
  refused_is c p not_41 not_45 = (
    by_answer (λ x. x ≡ refuse c p → RefusedAfter d o names ends c p) (λ n v e _ q. let z : ◌≡◌ {A = ℕ} 0 1 = cc in absurd (omega arith))
        (λ k _ q. let z : c ≡ 45 = cc in absurd (not_45 z)) (λ _ q. let z : c ≡ 41 = cc in absurd (not_41 z))
        (λ b r due q. let c-is : b ≡ c = cc in let p-is : r ≡ p = cc in rw (c-is, p-is) at due),
    λ r. refused _ (refusal_stops r),
  )

-- NO NAMES: the verdict alone, and the words stay
module _ (d o names words : List ℕ) where
  none_checked : many_checks d o names [] words ≡ checks d o
  unfolding many_checks_within run.checks ◌or_else◌
  none_checked = goes _ (each_none (run.end_rules names [])) ∙ go (checks d o)
    where
      go : (f : Found) → (f or_else first ((length words <? 5 * 0 ⇒ 41 at 0) ∷ [])) ≡ f
      go pass = first_pass _ (omega arith)
      go (stop c p) = refl

  pub none_is : lookups d o names [] words ≡ verdict d o
  unfolding lookups_within verdict_within
  none_is = rw none_checked

  pub none_stay : rows_after d o names [] words ≡ words
  unfolding rows_after_within
  none_stay = go (many_checks d o names [] words)
    where
      go : (f : Found) → unless_refused f (each (row d o names []) 0 ++ drop 0 words) words ≡ words
      go pass = sym (rows_none (row d o names []) words)
      go (stop c p) = refl
