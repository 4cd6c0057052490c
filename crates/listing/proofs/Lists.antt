-- The listing is accepted exactly when the layer is, each child has an own length and there is room; it says 43 exactly when the layer is
-- accepted and the child of that field is the first without one; 41 exactly when there is no room, and nothing else is wrong; and it refuses
-- otherwise as the verdict does. Assumes nothing.
use Rattle.rules.proofs.Prelude.{◌≡◌, ◌∙◌, ◌↔◌, List, [], ◌∷◌, ◌++◌, ℕ, ◌*◌, ◌<◌, arith, drop, Answer, accept, refuse, first, each}
use Rattle.rules.proofs.Prelude.{pass, stop, answered, refused, goes, stops, first_at, first_pass, each_pass, each_stop, by_meaning}
use Rattle.layer.specs.Object.{count}
use Rattle.layer.specs.Meaning.{Refusal}
use Rattle.object.proofs.Accepts.{all_pass}
use Rattle.object.proofs.Refuses.{is_due}
use Rattle.object.proofs.Fits.{checks_code}
use Rattle.listing.specs.Words.{span_rules, rows, list_checks, list_checks_within, listed, listed_within, words_after, words_after_within}
use Rattle.listing.specs.Meaning.{Spans, Listed, NoLength, NoRoom}
use Rattle.listing.proofs.Means.{spans_passed, known_none, Ours, list_means}
use Rattle.listing.proofs.Means.Ours.{of_layer, no_length, no_room}

module _ (d o w : List ℕ) where
  -- WHAT IS SO OF EACH CASE IS SO OF THE ANSWER
  pub by_answer : (P : Answer → Type 0) → ((n v e : ℕ) → Listed d o w n v e → P (accept (n ∷ v ∷ e ∷ []))) → ((k : ℕ) → NoLength d o k → P (refuse 43 k))
      → (NoRoom d o w → P (refuse 41 0)) → ((c p : ℕ) → Refusal d o c p → P (refuse c p)) → P (listed d o w)
  unfolding listed_within
  by_answer P is-listed is-endless is-full is_refused =
      by_meaning P _ (list_means d o w) (is-listed _ _ _) each_refusal
    where
      each_refusal : (c p : ℕ) → Ours d o w c p → P (refuse c p)
      each_refusal c p (of_layer r) = is_refused c p r
      each_refusal c p (no_length r) = is-endless p r
      each_refusal c p (no_room r) = is-full r

  -- EACH ANSWER'S CHECKS
  all_measured : (n : ℕ) → ((k : ℕ) → k < n → Spans o k) → first (each (span_rules o) n) ≡ pass
  all_measured n spans = each_pass (span_rules o) n (λ k p. spans_passed o k (spans k p))

  pub all_listed : (n v e : ℕ) → Listed d o w n v e → list_checks d o w ≡ pass
  unfolding list_checks_within
  all_listed n v e l = goes _ (all_pass d o n v e l.accepted) ∙ goes _ (all_measured (count o) l.spans) ∙ first_pass _ (omega arith, tt)

  pub no_length_stops : (k : ℕ) → NoLength d o k → list_checks d o w ≡ stop 43 k
  unfolding list_checks_within span_rules
  no_length_stops k r =
      let here = first_at 0 (span_rules o k) (known_none o k r.none) in
      goes _ (all_pass d o _ _ _ r.accepted) ∙ stops _ (each_stop (span_rules o) k (count o) (all_measured k r.before) here r.field)

  pub no_room_stops : NoRoom d o w → list_checks d o w ≡ stop 41 0
  unfolding list_checks_within
  no_room_stops r = goes _ (all_pass d o _ _ _ r.accepted) ∙ goes _ (all_measured (count o) r.spans) ∙ first_at 0 _ r.short

  pub refusal_stops : {c p : ℕ} → Refusal d o c p → list_checks d o w ≡ stop c p
  unfolding list_checks_within
  refusal_stops r = stops _ (is_due d o r)

  -- THE WORDS OF EACH ANSWER
  pub words_listed : (n v e : ℕ) → Listed d o w n v e → words_after d o w ≡ rows o n ++ drop (3 * n) w
  unfolding words_after_within
  words_listed n v e l = rw (all_listed n v e l, l.accepted.counts)

  pub words_stay : {c p : ℕ} → list_checks d o w ≡ stop c p → words_after d o w ≡ w
  unfolding words_after_within
  words_stay e = rw e

  -- THE THEOREMS
  pub listed_is : (n v e : ℕ) → (listed d o w ≡ accept (n ∷ v ∷ e ∷ [])) ↔ Listed d o w n v e
  unfolding listed_within
  listed_is n v e = (
    by_answer (λ x. x ≡ accept (n ∷ v ∷ e ∷ []) → Listed d o w n v e)
        (λ m s t l q. let n-is : m ≡ n = cc in let v-is : s ≡ v = cc in let e-is : t ≡ e = cc in rw (n-is, v-is, e-is) at l)
        (λ _ _ q. let z : ◌≡◌ {A = ℕ} 0 1 = cc in absurd (omega arith)) (λ _ q. let z : ◌≡◌ {A = ℕ} 0 1 = cc in absurd (omega arith))
        (λ c p _ q. let z : ◌≡◌ {A = ℕ} 0 1 = cc in absurd (omega arith)),
    λ l. let a = l.accepted in rw (a.counts, a.starts, a.ends) (answered _ (all_listed n v e l)),
  )

  pub no_length_is : (k : ℕ) → (listed d o w ≡ refuse 43 k) ↔ NoLength d o k
  unfolding listed_within
  no_length_is k = (
    by_answer (λ x. x ≡ refuse 43 k → NoLength d o k) (λ n v e _ q. let z : ◌≡◌ {A = ℕ} 0 1 = cc in absurd (omega arith))
        (λ j r q. let k-is : j ≡ k = cc in rw k-is at r) (λ _ q. let z : ◌≡◌ {A = ℕ} 41 43 = cc in absurd (omega arith))
        (λ c p r q. let z : c ≡ 43 = cc in absurd (omega (arith, checks_code d o (is_due d o r)))),
    λ r. refused _ (no_length_stops k r),
  )

  pub no_room_is : (listed d o w ≡ refuse 41 0) ↔ NoRoom d o w
  unfolding listed_within
  no_room_is = (
    by_answer (λ x. x ≡ refuse 41 0 → NoRoom d o w) (λ n v e _ q. let z : ◌≡◌ {A = ℕ} 0 1 = cc in absurd (omega arith))
        (λ _ _ q. let z : ◌≡◌ {A = ℕ} 43 41 = cc in absurd (omega arith)) (λ r q. r)
        (λ c p r q. let z : c ≡ 41 = cc in absurd (omega (arith, checks_code d o (is_due d o r)))),
    λ r. refused _ (no_room_stops r),
  )

  pub refused_is : (c p : ℕ) → (c ≡ 41 → ⊥) → (c ≡ 43 → ⊥) → (listed d o w ≡ refuse c p) ↔ Refusal d o c p
  unfolding listed_within
  refused_is c p n m = (
    by_answer (λ x. x ≡ refuse c p → Refusal d o c p) (λ m v e _ q. let z : ◌≡◌ {A = ℕ} 0 1 = cc in absurd (omega arith))
        (λ _ _ q. let z : c ≡ 43 = cc in absurd (m z)) (λ _ q. let z : c ≡ 41 = cc in absurd (n z))
        (λ b r due q. let c-is : b ≡ c = cc in let p-is : r ≡ p = cc in rw (c-is, p-is) at due),
    λ r. refused _ (refusal_stops r),
  )
