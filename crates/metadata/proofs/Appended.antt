-- Bytes added after a dictionary, within the limit, change no answer but 11 and 13: neither the verdict, nor a name by its number, nor `checked`.
-- With the laws by which each number stays as it is, for the layers above. Assumes nothing.
use Rattle.std.specs.Prelude.{Result, Ok, Err}
use Rattle.rules.proofs.Prelude.{◌≡◌, refl, sym, ap, ◌∙◌, Bool, false, ◌||◌, List, [], ◌∷◌}
use Rattle.rules.proofs.Prelude.{◌++◌, ℕ, ◌+◌, ◌-◌, ◌*◌, ◌≤◌, ◌<◌, arith, ne_eqb, eqb, length}
use Rattle.rules.proofs.Prelude.{length-append, List·getD-append, Found, Kept, Stays, accept, code_of, first, each, ◌or_else◌, ◌≤?◌, ◌⇒◌at◌, pass, ◌&◌, passed}
use Rattle.rules.proofs.Prelude.{both_pass, each_same, kept, same_stays, stays_then, stays_answer}
use Rattle.width.proofs.Laws.{le_append_at}
use Rattle.part.proofs.Laws.{part_append}
use Rattle.dictionary.specs.declared.Refusal.TheVariants.{Empty, Short}
use Rattle.dictionary.specs.declared.Refusal.{Refusal}
use Rattle.dictionary.specs.declared.Header.{Header}
use Rattle.dictionary.specs.Limits.{limit}
use Rattle.dictionary.specs.Dictionary.{version, sorted, width, count, offset, start, end, region, name, head_rules, region_rules, entry_rules}
use Rattle.dictionary.specs.Dictionary.{checks, checks_within, verdict, verdict_within, name_at, name_at_within}
use Rattle.dictionary.proofs.Laws.{count_before, start_before, offset_inside}
use Rattle.metadata.specs.Steps.{CheckedOf}
use Rattle.metadata.proofs.Means.{good}
use Rattle.metadata.proofs.Pinned.{refusal_by, by_number, head_by, head_is, checked_pinned}

-- the refusals that more bytes may lift: empty, and short
abbrev pub lifted : ℕ → Bool
lifted c = eqb c 11 || eqb c 13

unlifted : (c : ℕ) → (c ≡ 11 → ⊥) → (c ≡ 13 → ⊥) → lifted c ≡ false
unlifted c p q = rw (ne_eqb c 11 p, ne_eqb c 13 q)

-- the checks after the header's
abbrev rest : List ℕ → Found
rest d = first (region_rules (region d)) or_else first (each (entry_rules d) (count d))

-- what comes after the checks for a name by its number, and what is answered then
abbrev beyond : List ℕ → ℕ → Found
beyond d i = first ((count d ≤? i ⇒ 31 at 0) ∷ [])

abbrev places : List ℕ → ℕ → List ℕ
places d i = (start d + offset d i) ∷ (start d + offset d (i + 1)) ∷ []

module _ (d t : List ℕ) where
  -- EACH NUMBER STAYS where the bytes that hold it are there
  module _ (h : 1 ≤ length d) where
    pub version_same : version (d ++ t) ≡ version d
    unfolding version
    version_same = rw (List·getD-append d t 0 0 h)

    pub sorted_same : sorted (d ++ t) ≡ sorted d
    unfolding sorted
    sorted_same = rw (List·getD-append d t 0 0 h)

    pub width_same : width (d ++ t) ≡ width d
    unfolding width
    width_same = rw (List·getD-append d t 0 0 h)

  module _ (h : 1 + width d ≤ length d) where
    pub count_same : count (d ++ t) ≡ count d
    unfolding count
    count_same = rw (width_same (omega arith), le_append_at (width d) 1 d t h)

    pub start_same : start (d ++ t) ≡ start d
    unfolding start
    start_same = rw (width_same (omega arith), count_same)

  module _ (h : start d ≤ length d) where
    pub offset_same : (k : ℕ) → k ≤ count d → offset (d ++ t) k ≡ offset d k
    unfolding offset
    offset_same k p =
        rw (width_same (omega (arith, count_before d)), le_append_at (width d) (1 + width d + width d * k) d t (omega (arith, offset_inside d (width d) k refl p)))

    pub end_same : end (d ++ t) ≡ end d
    unfolding end
    end_same =
        let counted : 1 + width d ≤ length d = omega (arith, count_before d) in
        rw (count_same counted, start_same counted, offset_same (count d) (omega arith))

  module _ (h : end d ≤ length d) where
    pub region_same : region (d ++ t) ≡ region d
    unfolding region
    region_same =
        let placed : start d ≤ length d = omega (arith, start_before d) in
        rw (start_same (omega (arith, count_before d)), end_same placed, part_append d t (start d) (end d) (start_before d) h)

    pub name_same : (k : ℕ) → k < count d → name (d ++ t) k ≡ name d k
    unfolding name
    name_same k p =
        let placed : start d ≤ length d = omega (arith, start_before d) in
        rw (region_same, offset_same placed k (omega arith), offset_same placed (k + 1) (omega arith))

    entry_same : (k : ℕ) → k < count d → entry_rules (d ++ t) k ≡ entry_rules d k
    unfolding entry_rules
    entry_same k p =
        let placed : start d ≤ length d = omega (arith, start_before d) in
        rw (sorted_same (omega (arith, count_before d)), region_same, offset_same placed (k - 1) (omega arith), offset_same placed k (omega arith), offset_same placed (k + 1) (omega arith))

    rest_same : rest (d ++ t) ≡ rest d
    rest_same =
        rw (region_same, count_same (omega (arith, count_before d, start_before d)), each_same (entry_rules (d ++ t)) (entry_rules d) (count d) entry_same)

  -- THE CHECKS, the header's one by one
  pub head_kept : length (d ++ t) ≤ limit → Kept lifted (head_rules d) (head_rules (d ++ t))
  head_kept l =
      let more = length-append d t in
      omega arith & λ f10.
      omega arith & λ f11.
      let v = version_same f11 in
      let w = width_same f11 in
      omega arith & λ f12.
      omega arith & λ f13.
      let s = start_same f13 in
      omega arith & λ f14.
      omega arith & λ f13'.
      let o = offset_same f13' 0 (omega arith) in
      let e = end_same f13' in
      omega arith & λ f15. omega arith & λ f14'. omega arith & λ f13''. tt

  pub checks_kept : length (d ++ t) ≤ limit → Stays lifted (checks d) (checks (d ++ t))
  unfolding checks_within
  checks_kept l =
      stays_then lifted (first (head_rules d)) (first (head_rules (d ++ t))) (rest d) (rest (d ++ t)) (kept lifted (head_rules d) (head_rules (d ++ t)) (head_kept l)) λ e.
      let head = passed (head_rules d) e in
      rw (rest_same (omega arith)) (same_stays lifted (rest d))

  -- THE THEOREMS
  pub appended : length (d ++ t) ≤ limit → (code_of (verdict d) ≡ 11 → ⊥) → (code_of (verdict d) ≡ 13 → ⊥) → verdict (d ++ t) ≡ verdict d
  unfolding verdict_within
  appended l p q = stays_answer lifted (checks d) (checks (d ++ t)) _ _ (checks_kept l) same (unlifted _ p q)
    where
      same : checks d ≡ pass → accept (count (d ++ t) ∷ end (d ++ t) ∷ []) ≡ accept (count d ∷ end d ∷ [])
      same e = let g = good d e in rw (count_same (omega arith), end_same (omega arith))

  pub name_appended : (i : ℕ) → length (d ++ t) ≤ limit → (code_of (name_at d i) ≡ 11 → ⊥) → (code_of (name_at d i) ≡ 13 → ⊥) → name_at (d ++ t) i ≡ name_at d i
  unfolding name_at_within
  name_appended i l p q =
      stays_answer lifted (checks d or_else beyond d i) (checks (d ++ t) or_else beyond (d ++ t) i) _ _
      (stays_then lifted (checks d) (checks (d ++ t)) (beyond d i) (beyond (d ++ t) i) (checks_kept l) λ e.
      let g = good d e in rw (count_same (omega arith)) (same_stays lifted (beyond d i)))
      same
      (unlifted _ p q)
    where
      same : (checks d or_else beyond d i) ≡ pass → accept (places (d ++ t) i) ≡ accept (places d i)
      same e =
          let both = both_pass (checks d) (beyond d i) e in
          let g = good d both.0 in
          let within = passed ((count d ≤? i ⇒ 31 at 0) ∷ []) both.1 in
          rw (start_same (omega arith), offset_same (omega arith) i (omega arith), offset_same (omega arith) (i + 1) (omega arith))

  pub checked_appended : (r r' : Result Header Refusal) → length (d ++ t) ≤ limit → (r ≡ Err Empty → ⊥) → (r ≡ Err Short → ⊥)
      → CheckedOf d r → CheckedOf (d ++ t) r' → r' ≡ r
  unfolding refusal_by head_by
  checked_appended (Err q) r' l p s a b =
      let settled = unlifted _ (λ w. p (ap Err (by_number q w))) (λ w. s (ap Err (by_number q w))) in
      checked_pinned (d ++ t) r' (Err q) b ((rw a at (checks_kept l)) settled)
  checked_appended (Ok h) r' l p s a b =
      let passes : checks (d ++ t) ≡ pass = rw a.1 at (checks_kept l) in
      let g = good d a.1 in
      sym (head_is (d ++ t) r' b)
      ∙ rw (passes, width_same (omega arith), sorted_same (omega arith), count_same (omega arith), start_same (omega arith), end_same (omega arith))
      (rw a.1 at (head_is d (Ok h) a))
