-- An index is found, absent or refused exactly as specs/Meaning.antt says it in words; where it is found, its bytes lie in the list's.
-- Assumes nothing.
use Rattle.rules.proofs.Prelude.{◌≡◌, refl, ◌∙◌, ◌↔◌, List, [], ◌∷◌, ℕ, ◌+◌, ◌≤◌, ◌<◌, arith}
use Rattle.rules.proofs.Prelude.{dec_lt, lt-ltb, le-ltb, length, get_or, Answer, accept, gives, refuse, stop, ◌&◌}
use Rattle.rules.proofs.Prelude.{first_at, Meant, by_rows, meant_then, meant_map, meant_stop, rows_mean, each_means, by_meaning, stops}
use Prim.Native.Nat.{◌%◌}
use Rattle.dictionary.specs.Limits.{limit}
use Rattle.layout.specs.Layout.{count, rules}
use Rattle.layout.proofs.Laws.{end_is}
use Rattle.list.specs.List.{element_rules, checks as list_checks}
use Rattle.list.proofs.Laws as laws
use Rattle.list.proofs.Means as list
use Rattle.elements.specs.Element.{widths, head_rules, checks, element, found as found_for}
use Rattle.elements.specs.Meaning.{IsList, Found, Absent, Refusal}
use Rattle.elements.specs.Meaning.Refusal.{too_long, empty, no_list, layer}
use Rattle.elements.specs.Promises.{Lead}
use Rattle.elements.proofs.Laws.{list_checks_law, is_refused, is_absent, is_found}

module _ (v : List ℕ) where
  abbrev Led : Type 0
  Led = (length v ≤ limit) × (1 ≤ length v) × (get_or v 0 0 % 4 ≡ 3)

  checks_mean : Meant (IsList v) (Refusal v) (checks v)
  unfolding checks
  checks_mean =
      meant_then {A = Led} _ (by_rows Led (Refusal v) (head_rules v) (too_long & λ a. empty a & λ b. no_list a b & λ t. (a, b, t))) λ h.
      meant_map (λ l. record { not_long = h.0; not_empty = h.1; is_list = h.2; layer = l }) (λ c p r. layer h.0 h.1 h.2 r)
      (list.checks_mean (widths v) v)

  -- a list that is led to, by its header byte
  led : length v ≤ limit → 1 ≤ length v → get_or v 0 0 % 4 ≡ 3 → Lead v (widths v)
  led a b t = record { not_long = a; not_empty = b; is_list = t; widths_are = refl }

  is_due : {c p : ℕ} → Refusal v c p → checks v ≡ stop c p
  unfolding checks
  is_due (too_long a) = stops _ (first_at 0 (head_rules v) a)
  is_due (empty a b) = stops _ (first_at 1 (head_rules v) (a & b))
  is_due (no_list a b t) = stops _ (first_at 2 (head_rules v) (a & b & t))
  is_due (layer a b t r) = list_checks_law v _ (led a b t) ∙ list.is_due (widths v) v r

  -- ITS NUMBERS are 20 to 22 and 60 to 62, so that none is taken for absence
  abbrev Ours : ℕ → ℕ → Type 0
  Ours c p = (20 ≤ c) × (c < 63)

  pub refusal_code : {c p : ℕ} → Refusal v c p → (20 ≤ c) × (c < 63)
  unfolding checks list_checks element_rules
  refusal_code r =
      meant_stop
      (meant_then _ (rows_mean Ours (head_rules v) (omega arith)) λ _.
      meant_then _ (rows_mean Ours (rules 60 61 60 (widths v) v) (omega arith)) λ _.
      each_means Ours (element_rules (widths v) v) (count (widths v) v) (λ k q. omega arith)) (is_due r)

  module _ (n : ℕ) where
    -- WHAT IS SO OF EACH CASE IS SO OF THE ANSWER
    pub by_answer : (P : Answer → Type 0) → ((a e : ℕ) → Found v n a e → P (accept (n ∷ 0 ∷ a ∷ e ∷ []))) → (Absent v n → P (gives 1 [] 0))
        → ((c p : ℕ) → Refusal v c p → P (refuse c p)) → P (element v n)
    unfolding element
    by_answer P found absent refused = by_meaning P _ checks_mean (λ l. go l (dec_lt n (count (widths v) v))) refused
      where
        go : IsList v → Dec (n < count (widths v) v) → P (found_for v n)
        go l (yes p) = rw (lt-ltb n (count (widths v) v) p) (found _ _ (record { accepted = l; is_element = p; starts = refl; ends = refl }))
        go l (no p) = rw (le-ltb n (count (widths v) v) (omega arith)) (absent (record { accepted = l; past = omega arith }))

    -- THE THEOREMS
    pub found : (a e : ℕ) → (element v n ≡ accept (n ∷ 0 ∷ a ∷ e ∷ [])) ↔ Found v n a e
    found a e = (
      by_answer (λ x. x ≡ accept (n ∷ 0 ∷ a ∷ e ∷ []) → Found v n a e)
          (λ b f is w. let a-is : b ≡ a = cc in let e-is : f ≡ e = cc in rw (a-is, e-is) at is)
          (λ _ w. let z : ◌≡◌ {A = ℕ} 0 1 = cc in absurd (omega arith))
          (λ c p _ w. let z : ◌≡◌ {A = ℕ} 0 1 = cc in absurd (omega arith)),
      λ f. let l = f.accepted in
          is_found v n _ (led l.not_long l.not_empty l.is_list) (list.all_pass (widths v) v l.layer) f.is_element
          ∙ rw (← f.starts, ← f.ends),
    )

    pub absent : (element v n ≡ gives 1 [] 0) ↔ Absent v n
    absent = (
      by_answer (λ x. x ≡ gives 1 [] 0 → Absent v n) (λ a e _ w. let z : ◌≡◌ {A = ℕ} 0 1 = cc in absurd (omega arith)) (λ none w. none)
          (λ c p r w. let z : c ≡ 1 = cc in absurd (omega (arith, refusal_code r))),
      λ a. let l = a.accepted in
          is_absent v n _ (led l.not_long l.not_empty l.is_list) (list.all_pass (widths v) v l.layer) a.past,
    )

    pub refused : (c p : ℕ) → (c ≡ 1 → ⊥) → (element v n ≡ refuse c p) ↔ Refusal v c p
    refused c p other = (
      by_answer (λ x. x ≡ refuse c p → Refusal v c p) (λ a e _ w. let z : ◌≡◌ {A = ℕ} 0 1 = cc in absurd (omega arith))
          (λ _ w. let z : c ≡ 1 = cc in absurd (other z))
          (λ b r due w. let c-is : b ≡ c = cc in let p-is : r ≡ p = cc in rw (c-is, p-is) at due),
      λ r. is_refused v n (is_due r),
    )

    -- an element's bytes are bytes of the list
    pub inside : (a e : ℕ) → Found v n a e → (a ≤ e) × (e ≤ length v)
    inside a e f =
        let l = f.accepted.layer in
        let within = laws.inside (widths v) v (list.all_pass (widths v) v l) (n + 1) (omega (arith, f.is_element)) in
        omega (arith, f.starts, f.ends, (l.elements n f.is_element).rises, within, end_is (widths v) v, l.headed.end_inside)
