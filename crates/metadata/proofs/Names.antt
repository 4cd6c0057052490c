-- The names of an accepted dictionary: exactly when a number gives a name, 31 or a refusal; the bytes where the answer says are the name, and
-- well-formed text; and the names of a sorted dictionary increase, each before every later one. Assumes nothing.
use Rattle.rules.proofs.Prelude.{◌≡◌, refl, ◌∙◌, true, ◌↔◌, ◌⊎◌, ⊎_elim, inl, inr, List, [], ◌∷◌, ℕ, ◌+◌, ◌-◌, ◌<◌, dec_lt, arith, length, take, take_all}
use Rattle.rules.proofs.Prelude.{take-add, Answer, Found, accept, refuse, first, ◌or_else◌, ◌≤?◌, ◌⇒◌at◌, pass, Meant, answered, refused, stops, goes}
use Rattle.rules.proofs.Prelude.{first_at, first_pass, by_rows, meant_then, meant_map, by_meaning}
use Rattle.part.specs.Part.{part}
use Rattle.walk.proofs.Laws.{items_rest}
use Rattle.chars.specs.Rfc3629.{Text, Char, char}
use Rattle.chars.proofs.Laws.{chars}
use Rattle.chars.proofs.Bounds.{bound}
use Rattle.names.specs.Search.{Rising}
use Rattle.names.proofs.Search.{rising_all}
use Rattle.dictionary.specs.Dictionary.{sorted, count, offset, end, region, name, checks, name_at, name_at_within}
use Rattle.dictionary.specs.Meaning.{Cut, Dictionary, Refusal, Named, NoEntry}
use Rattle.dictionary.proofs.Laws.{name_part}
use Rattle.metadata.proofs.Means.{good, checks_mean}
use Rattle.metadata.proofs.Accepts.{all_pass}
use Rattle.metadata.proofs.Refuses.{is_due}
use Rattle.metadata.proofs.Fits.{checks_code}

-- the region up to an offset that cuts no character is a text
front : (d : List ℕ) (k : ℕ) → Text (region d) → (Cut d k → ⊥) → Text (take (offset d k) (region d))
front d k x whole = go (dec_lt (offset d k) (length (region d)))
  where
    go : Dec (offset d k < length (region d)) → Text (take (offset d k) (region d))
    go (yes p) = (bound x (offset d k) p (λ c. whole (record { inside = p; on_tail = c }))).0
    go (no p) = rw (take_all (offset d k) (region d) (omega arith)) x

pub name_text : (d : List ℕ) (i : ℕ) → checks d ≡ pass → i < count d → Text (name d i)
unfolding name
name_text d i e p =
    let g = good d e in
    let x = g.texted.is_text in
    let r = (g.entries i p).in_range in
    let f = offset d i in
    let t = offset d (i + 1) in
    let t-is : t ≡ f + (t - f) = omega (arith, r.rises) in
    items_rest Char char chars (front d i x r.start_whole) _
    (rw (t-is, take-add f (t - f) (region d)) at (front d (i + 1) x r.end_whole))

-- a name by its number: what comes after the checks, and each answer exactly when
module _ (d : List ℕ) (i : ℕ) where
  abbrev asked : Found
  asked = checks d or_else first ((count d ≤? i ⇒ 31 at 0) ∷ [])

  -- what is so of each case is so of the answer
  abbrev Ours : ℕ → ℕ → Type 0
  Ours c p = Refusal d c p ⊎ (NoEntry d i × (31 ≡ c) × (0 ≡ p))

  name_means : Meant (Dictionary d (count d) (end d) × (i < count d)) Ours asked
  name_means =
      meant_then _ (meant_map (λ g. g) (λ c p. inl) (checks_mean d)) λ g.
      by_rows _ Ours ((count d ≤? i ⇒ 31 at 0) ∷ []) ((λ h. inr (record { accepted = g; beyond = h }, refl, refl)), λ f. (g, f))

  pub by_answer : (P : Answer → Type 0) → ((a e : ℕ) → Named d i a e → P (accept (a ∷ e ∷ []))) → (NoEntry d i → P (refuse 31 0))
      → ((c p : ℕ) → Refusal d c p → P (refuse c p)) → P (name_at d i)
  unfolding name_at_within
  by_answer P is-named is_none is_refused =
      by_meaning P _ name_means (λ g. is-named _ _ (record { accepted = g.0; is_entry = g.1; starts = refl; ends = refl }))
      (λ c p r. ⊎_elim (is_refused c p) (λ f. rw (f.1, f.2) at (is_none f.0)) r)

  -- THE THEOREMS
  pub named : (a e : ℕ) → (name_at d i ≡ accept (a ∷ e ∷ [])) ↔ Named d i a e
  unfolding name_at_within
  named a e = (
    by_answer (λ x. x ≡ accept (a ∷ e ∷ []) → Named d i a e) (λ b f n w. let a-is : b ≡ a = cc in let e-is : f ≡ e = cc in rw (a-is, e-is) at n)
        (λ _ w. let z : ◌≡◌ {A = ℕ} 0 1 = cc in absurd (omega arith)) (λ c p _ w. let z : ◌≡◌ {A = ℕ} 0 1 = cc in absurd (omega arith)),
    λ n. rw (n.starts, n.ends) (answered _ (goes _ (all_pass d _ _ n.accepted) ∙ first_pass _ (n.is_entry, tt))),
  )

  pub no_entry : (name_at d i ≡ refuse 31 0) ↔ NoEntry d i
  unfolding name_at_within
  no_entry = (
    by_answer (λ x. x ≡ refuse 31 0 → NoEntry d i) (λ a e _ w. let z : ◌≡◌ {A = ℕ} 0 1 = cc in absurd (omega arith)) (λ n w. n)
        (λ c p r w. let z : c ≡ 31 = cc in absurd (omega (arith, checks_code d (is_due d r)))),
    λ n. refused _ (goes _ (all_pass d _ _ n.accepted) ∙ first_at 0 _ n.beyond),
  )

  pub refused_is : (c p : ℕ) → (c ≡ 31 → ⊥) → (name_at d i ≡ refuse c p) ↔ Refusal d c p
  unfolding name_at_within
  refused_is c p n = (
    by_answer (λ x. x ≡ refuse c p → Refusal d c p) (λ a e _ w. let z : ◌≡◌ {A = ℕ} 0 1 = cc in absurd (omega arith))
        (λ _ w. let z : c ≡ 31 = cc in absurd (n z)) (λ b r due w. let c-is : b ≡ c = cc in let p-is : r ≡ p = cc in rw (c-is, p-is) at due),
    λ r. refused _ (stops _ (is_due d r)),
  )

  -- where the name is said to stand, it stands, and it is a text
  pub name_there : (a e : ℕ) → Named d i a e → (part d a e ≡ name d i) × Text (name d i)
  name_there a e n =
      let g = n.accepted in
      (rw (n.starts, n.ends) (name_part d i (omega arith) (g.entries i n.is_entry).in_range.stays), name_text d i (all_pass d _ _ g) n.is_entry)

pub rising : (d : List ℕ) → checks d ≡ pass → sorted d ≡ true → Rising (name d) (count d)
rising d e s = rising_all (name d) (count d) λ k p q. ((good d e).entries k q).above s p
