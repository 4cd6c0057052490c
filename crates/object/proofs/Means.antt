-- What the checks come to, row by row: where all pass, the rules of an accepted layer hold; where one stops, that refusal is due.
-- Accepts.antt and Refuses.antt draw their theorems from it. Assumes nothing.
use Rattle.rules.proofs.Prelude.{◌≡◌, refl, sym, ◌∙◌, List, ℕ, ◌<◌, arith, first, each, Passed, pass, ◌&◌, false_true, Meant, by_rows, by_each, meant_then}
use Rattle.rules.proofs.Prelude.{meant_map, meant_pass}
use Rattle.names.proofs.Laws.{below_before, before_below}
use Rattle.dictionary.specs.Dictionary as dictionary
use Rattle.dictionary.specs.Meaning as dictionary-meaning
use Rattle.metadata.proofs.Means as dictionary-means
use Rattle.layer.specs.Object.{count, start, end, head_rules, name_rules, offset_rules, checks, checks_within}
use Rattle.layer.specs.Meaning.{Sized, Typed, Counted, Placed, Headed, GoodName, Named, InRegion, Layer, Refusal}
use Rattle.layer.specs.Meaning.Refusal.{of_dictionary, too_long, empty, other_type, count_cut, offsets_sum, start_sum, start_short}
use Rattle.layer.specs.Meaning.Refusal.{end_sum, end_short, no_entry, not_above, past_region, empty_child}

module _ (d o : List ℕ) where
  -- THE HEADER
  head_means : dictionary-meaning.Dictionary d (dictionary.count d) (dictionary.end d) → Meant (Headed d o) (Refusal d o) (first (head_rules o))
  head_means over =
      by_rows (Headed d o) (Refusal d o) (head_rules o)
      (too_long over & λ f20.
      (λ h. empty over (omega arith)) & λ f21.
      let sized : Sized d o = record { over = over; not_long = f20; not_empty = f21 } in
      other_type sized & λ f22.
      let typed : Typed d o = record { sized = sized; is_object = f22 } in
      count_cut typed & λ f23.
      let counted : Counted d o = record { typed = typed; count_inside = f23 } in
      offsets_sum counted & λ f24.
      start_sum counted f24 & λ f24'.
      start_short counted f24 f24' & λ f23'.
      let placed : Placed d o = record { counted = counted; offsets_fit = f24; start_fits = f24'; start_inside = f23' } in
      end_sum placed & λ f24''.
      end_short placed f24'' & λ f23''.
      record { placed = placed; end_fits = f24''; end_inside = f23'' })

  pub head_passed : Headed d o → Passed (head_rules o)
  head_passed h = omega arith

  -- A FIELD'S NAME
  passed_good : (k : ℕ) → Passed (name_rules d o k) → GoodName d o k
  unfolding name_rules
  passed_good k h = record { entry = h.0; above = λ p. below_before _ _ (h.1.0 p) }

  pub good_passed : (k : ℕ) → GoodName d o k → Passed (name_rules d o k)
  unfolding name_rules
  good_passed k g = g.entry & (λ p. before_below (g.above p)) & tt

  names_mean : Headed d o → Meant (Named d o) (Refusal d o) (first (each (name_rules d o) (count o)))
  unfolding name_rules
  names_mean h =
      meant_map (λ all. record { headed = h; names = λ k q. passed_good k (all k q) }) (λ c p b. b)
      (by_each (Refusal d o) (name_rules d o) (count o) λ k q all.
      let before : (j : ℕ) → j < k → GoodName d o j = λ j r. passed_good j (all j r) in
      no_entry h q before & λ entry. (λ b. not_above h q before entry b.0 (λ a. false_true (sym b.1 ∙ before_below a))) & λ _. tt)

  -- A FIELD'S OFFSET
  passed_inside : (k : ℕ) → Passed (offset_rules o k) → InRegion o k
  unfolding offset_rules
  passed_inside k h = h.1.0

  pub inside_passed : (k : ℕ) → InRegion o k → Passed (offset_rules o k)
  unfolding offset_rules
  inside_passed k i = omega arith & i & tt

  offsets_mean : Named d o → Meant (Layer d o (count o) (start o) (end o)) (Refusal d o) (first (each (offset_rules o) (count o)))
  unfolding offset_rules
  offsets_mean n =
      meant_map (λ all. record { named = n; offsets = λ k q. passed_inside k (all k q); counts = refl; starts = refl; ends = refl }) (λ c p b. b)
      (by_each (Refusal d o) (offset_rules o) (count o) λ k q all.
      let before : (j : ℕ) → j < k → InRegion o j = λ j r. passed_inside j (all j r) in
      past_region n q before & λ inside. (λ at. empty_child n q before (omega arith)) & λ _. tt)

  -- ALL CHECKS
  pub checks_mean : Meant (Layer d o (count o) (start o) (end o)) (Refusal d o) (checks d o)
  unfolding checks_within
  checks_mean =
      meant_then _ (meant_map (λ over. over) (λ c p. of_dictionary) (dictionary-means.checks_mean d)) λ over.
      meant_then _ (head_means over) λ h. meant_then _ (names_mean h) offsets_mean

  pub good : checks d o ≡ pass → Layer d o (count o) (start o) (end o)
  good e = meant_pass checks_mean e
