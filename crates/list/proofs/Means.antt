-- A list layer is accepted exactly when the rules of document 02, h), hold of it, and refused, with a number and a place, exactly when that
-- refusal is due, the checks taken in their order (`ListLayer` and `Refusal` of specs/Meaning.antt). Assumes nothing.
use Rattle.rules.proofs.Prelude.{◌≡◌, ◌∙◌, ◌↔◌, List, ℕ, ◌<◌, arith, first, each, Passed, pass, stop, ◌&◌, first_at, each_pass, each_stop}
use Rattle.rules.proofs.Prelude.{Meant, by_rows, by_each, meant_then, meant_map, meant_pass, meant_stop}
use Rattle.layout.specs.declared.Widths.{Widths}
use Rattle.layout.specs.Layout.{count, rules}
use Rattle.lengths.specs.Meaning.{Counted}
use Rattle.list.specs.List.{element_rules, checks}
use Rattle.list.specs.Meaning.{Headed, InOrder, ListLayer, Refusal}
use Rattle.list.specs.Meaning.Refusal.{count_cut, offsets_sum, start_sum, offsets_cut, end_sum, end_past, not_rising, past_region}
use Rattle.list.proofs.Laws.{by_head, by_elements, passed_order, order_passed}

module _ (w : Widths) (s : List ℕ) where
  -- THE HEADER
  head_means : Meant (Headed w s) (Refusal w s) (first (rules 60 61 60 w s))
  head_means =
      by_rows (Headed w s) (Refusal w s) (rules 60 61 60 w s)
      (count_cut & λ there.
      offsets_sum there & λ fits.
      start_sum there fits & λ fits'.
      offsets_cut there fits fits' & λ there'.
      let counted : Counted w s = record { count_there = there; offsets_fit = fits; start_fits = fits'; offsets_there = there' } in
      end_sum counted & λ small. end_past counted small & λ inside. record { counted = counted; end_fits = small; end_inside = inside })

  head_passed : Headed w s → Passed (rules 0 0 0 w s)
  head_passed h = omega arith

  -- THE ELEMENTS
  elements_mean : Headed w s → Meant (ListLayer w s) (Refusal w s) (first (each (element_rules w s) (count w s)))
  unfolding element_rules
  elements_mean h =
      meant_map (λ all. record { headed = h; elements = λ k q. passed_order w s k (all k q) }) (λ c p b. b)
      (by_each (Refusal w s) (element_rules w s) (count w s) λ k q all.
      let before : (j : ℕ) → j < k → InOrder w s j = λ j r. passed_order w s j (all j r) in
      not_rising h q before & λ rises. past_region h q before rises & λ _. tt)

  -- ALL CHECKS
  pub checks_mean : Meant (ListLayer w s) (Refusal w s) (checks w s)
  unfolding checks
  checks_mean = meant_then _ head_means elements_mean

  pub good : checks w s ≡ pass → ListLayer w s
  good e = meant_pass checks_mean e

  -- AND BACK
  pub all_pass : ListLayer w s → checks w s ≡ pass
  all_pass l =
      by_elements w s (head_passed l.headed)
      ∙ each_pass (element_rules w s) (count w s) (λ k p. order_passed w s k (l.elements k p))

  -- the first element that is not in order stops
  by_element : {k c p : ℕ} → Headed w s → k < count w s → ((j : ℕ) → j < k → InOrder w s j) → first (element_rules w s k) ≡ stop c p → checks w s ≡ stop c p
  by_element {k} h q before e =
      by_elements w s (head_passed h)
      ∙ each_stop (element_rules w s) k (count w s) (each_pass (element_rules w s) k (λ j r. order_passed w s j (before j r))) e q

  pub is_due : {c p : ℕ} → Refusal w s c p → checks w s ≡ stop c p
  unfolding element_rules
  is_due (count_cut p) = by_head w s (first_at 0 (rules 60 61 60 w s) p)
  is_due (offsets_sum a p) = by_head w s (first_at 1 (rules 60 61 60 w s) (a & p))
  is_due (start_sum a b p) = by_head w s (first_at 2 (rules 60 61 60 w s) (a & b & p))
  is_due (offsets_cut a b c p) = by_head w s (first_at 3 (rules 60 61 60 w s) (a & b & c & p))
  is_due (end_sum d p) = by_head w s (first_at 4 (rules 60 61 60 w s) (omega arith))
  is_due (end_past d q p) = by_head w s (first_at 5 (rules 60 61 60 w s) (omega arith))
  is_due (not_rising {k = k} h q before p) = by_element h q before (first_at 0 (element_rules w s k) p)
  is_due (past_region {k = k} h q before r p) = by_element h q before (first_at 1 (element_rules w s k) (r & p))

  -- THE THEOREMS
  pub accepts : (checks w s ≡ pass) ↔ ListLayer w s
  accepts = (good, all_pass)

  pub refuses : (c p : ℕ) → (checks w s ≡ stop c p) ↔ Refusal w s c p
  refuses c p = (meant_stop checks_mean, is_due)
