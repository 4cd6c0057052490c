-- Where the layer's numbers stand, and by which table its checks are settled. Assumes nothing.
use Rattle.rules.proofs.Prelude.{◌≡◌, refl, ◌∙◌, List, ℕ, ◌+◌, ◌-◌, ◌*◌, ◌≤◌, ◌<◌, mul-le-mul_left, mul-le-mul_right, arith, Found, first, each, Passed}
use Rattle.rules.proofs.Prelude.{◌or_else◌, pass, stop, both_pass, stops, goes, first_pass, each_passed}
use Rattle.names.specs.Search.{Rising}
use Rattle.names.proofs.Laws.{below_before}
use Rattle.names.proofs.Search.{rising_all}
use Rattle.dictionary.specs.Dictionary as dictionary
use Rattle.layer.specs.Object.{offset_width, id_width, count, ids_start, id, offsets_start, offset, start, end, field_name, head_rules, name_rules, offset_rules, checks, checks_within}
use Rattle.layer.specs.Meaning.{InRegion}

-- PLACES

module _ (o : List ℕ) where
  -- in their order
  pub ids_before : ids_start o ≤ offsets_start o
  unfolding offsets_start
  ids_before = omega arith

  pub offsets_before : offsets_start o + offset_width o ≤ start o
  unfolding start
  offsets_before = omega (arith, mul-le-mul_left {m = 1} {n = count o + 1} (offset_width o) (omega arith))

  pub start_before : start o ≤ end o
  unfolding end
  start_before = omega arith

  pub end_is : end o ≡ start o + offset o (count o)
  unfolding end
  end_is = refl

  -- the header holds id k, and offset k
  pub id_inside : (w k : ℕ) → w ≡ id_width o → k < count o → ids_start o + w * k + w ≤ offsets_start o
  unfolding offsets_start
  id_inside w k e h = rw e (omega (arith, mul-le-mul_left {m = k + 1} {n = count o} (id_width o) (omega arith)))

  pub offset_inside : (w k : ℕ) → w ≡ offset_width o → k ≤ count o → offsets_start o + w * k + w ≤ start o
  unfolding start
  offset_inside w k e h = rw e (omega (arith, mul-le-mul_left (offset_width o) h))

  -- there are fewer fields than bytes
  pub count_below : count o < start o
  unfolding start offset_width
  count_below = omega (arith, mul-le-mul_right {m = 1} {n = offset_width o} (count o + 1) (omega arith))

-- THE CHECKS, BY WHERE THEY ARE SETTLED

-- what all checks passing says of each
pub record Passes (d o : List ℕ) : Type 0 where
  pub over : dictionary.checks d ≡ pass
  pub header : first (head_rules o) ≡ pass
  pub names : first (each (name_rules d o) (count o)) ≡ pass
  pub offsets : first (each (offset_rules o) (count o)) ≡ pass

module _ (d o : List ℕ) where
  pub passes : checks d o ≡ pass → Passes d o
  unfolding checks_within
  passes e =
      let a = both_pass (dictionary.checks d) _ e in
      let b = both_pass (first (head_rules o)) _ a.1 in
      let c = both_pass (first (each (name_rules d o) (count o))) _ b.1 in
      record { over = a.0; header = b.0; names = c.0; offsets = c.1 }

  pub by_dictionary : {c p : ℕ} → dictionary.checks d ≡ stop c p → checks d o ≡ stop c p
  unfolding checks_within
  by_dictionary e = stops _ e

  module _ (over : dictionary.checks d ≡ pass) where
    pub by_head : {c p : ℕ} → first (head_rules o) ≡ stop c p → checks d o ≡ stop c p
    unfolding checks_within
    by_head e = goes _ over ∙ stops _ e

    pub by_names : Passed (head_rules o) → {f : Found} → first (each (name_rules d o) (count o)) ≡ f → checks d o ≡ (f or_else first (each (offset_rules o) (count o)))
    unfolding checks_within
    by_names h e = goes _ over ∙ goes _ (first_pass (head_rules o) h) ∙ rw e

  -- WHAT PASSING SAYS OF THE FIELDS
  module _ (e : checks d o ≡ pass) where
    pub entry_of : (k : ℕ) → k < count o → id o k < dictionary.count d
    unfolding name_rules
    entry_of k p = (each_passed (name_rules d o) (count o) (passes e).names k p).0

    pub names_rise : Rising (field_name d o) (count o)
    unfolding name_rules
    names_rise =
        rising_all (field_name d o) (count o) λ k p q.
        below_before _ _ ((each_passed (name_rules d o) (count o) (passes e).names k q).1.0 p)

    pub in_region : (k : ℕ) → k < count o → InRegion o k
    unfolding offset_rules
    in_region k p = (each_passed (offset_rules o) (count o) (passes e).offsets k p).1.0
