-- An object layer is refused, with a number and a place, exactly when document 01's table says so, the dictionary's checks and then its own
-- taken in their order (the data type `Refusal` of Meaning.antt of `layer`). Assumes nothing.
use Rattle.rules.proofs.Prelude.{◌≡◌, refl, ◌∙◌, ◌↔◌, List, [], ◌∷◌, ℕ, ◌<◌, arith, refuse, first, pass, stop, ◌&◌, first_at, stops, goes, turned_down}
use Rattle.rules.proofs.Prelude.{refused, each_pass, each_stop, meant_stop}
use Rattle.names.proofs.Laws.{not_below}
use Rattle.dictionary.specs.Dictionary as dictionary
use Rattle.metadata.proofs.Accepts as dictionary-accepts
use Rattle.metadata.proofs.Refuses as dictionary-refuses
use Rattle.layer.specs.Object.{count, start, end, name_rules, offset_rules, checks, verdict, verdict_within}
use Rattle.layer.specs.Meaning.{Counted, Placed, Headed, GoodName, Named, InRegion, Refusal}
use Rattle.layer.specs.Meaning.Refusal.{of_dictionary, too_long, empty, other_type, count_cut, offsets_sum, start_sum, start_short}
use Rattle.layer.specs.Meaning.Refusal.{end_sum, end_short, no_entry, not_above, past_region, empty_child}
use Rattle.layer.proofs.Laws.{by_dictionary, by_head, by_names}
use Rattle.object.proofs.Means.{head_passed, good_passed, inside_passed, checks_mean}

module _ (d o : List ℕ) where
  over_counted : Counted d o → dictionary.checks d ≡ pass
  over_counted c = dictionary-accepts.all_pass d _ _ c.typed.sized.over

  over_placed : Placed d o → dictionary.checks d ≡ pass
  over_placed p = over_counted p.counted

  -- the first field whose name is refused stops
  by_name : {k c p : ℕ} → Headed d o → k < count o → ((j : ℕ) → j < k → GoodName d o j) → first (name_rules d o k) ≡ stop c p → checks d o ≡ stop c p
  by_name {k} h q before e =
      by_names d o (over_placed h.placed) (head_passed d o h)
      (each_stop (name_rules d o) k (count o) (each_pass (name_rules d o) k (λ j r. good_passed d o j (before j r))) e q)
      ∙ stops _ refl

  -- and so does the first whose offset is
  by_offset : {k c p : ℕ} → Named d o → k < count o → ((j : ℕ) → j < k → InRegion o j) → first (offset_rules o k) ≡ stop c p → checks d o ≡ stop c p
  by_offset {k} m q before e =
      by_names d o (over_placed m.headed.placed) (head_passed d o m.headed)
      (each_pass (name_rules d o) (count o) (λ j r. good_passed d o j (m.names j r)))
      ∙ goes _ refl
      ∙ each_stop (offset_rules o) k (count o) (each_pass (offset_rules o) k (λ j r. inside_passed d o j (before j r))) e q

  -- each refusal that is due is given
  pub is_due : {c p : ℕ} → Refusal d o c p → checks d o ≡ stop c p
  unfolding name_rules offset_rules
  is_due (of_dictionary r) = by_dictionary d o (dictionary-refuses.is_due d r)
  is_due (too_long r h) = by_head d o (dictionary-accepts.all_pass d _ _ r) (first_at 0 _ h)
  is_due (empty r e) = by_head d o (dictionary-accepts.all_pass d _ _ r) (first_at 1 _ (omega arith))
  is_due (other_type b h) = by_head d o (dictionary-accepts.all_pass d _ _ b.over) (first_at 2 _ (omega arith))
  is_due (count_cut b h) = by_head d o (dictionary-accepts.all_pass d _ _ b.sized.over) (first_at 3 _ (omega arith))
  is_due (offsets_sum b h) = by_head d o (over_counted b) (first_at 4 _ (omega arith))
  is_due (start_sum b f h) = by_head d o (over_counted b) (first_at 5 _ (omega arith))
  is_due (start_short b f g h) = by_head d o (over_counted b) (first_at 6 _ (omega arith))
  is_due (end_sum b h) = by_head d o (over_placed b) (first_at 7 _ (omega arith))
  is_due (end_short b f h) = by_head d o (over_placed b) (first_at 8 _ (omega arith))
  is_due (no_entry {k = k} h q g n) = by_name h q g (first_at 0 (name_rules d o k) n)
  is_due (not_above {k = k} h q g i z n) = by_name h q g (first_at 1 (name_rules d o k) (i & z & not_below _ _ n))
  is_due (past_region {k = k} m q g n) = by_offset m q g (first_at 0 (offset_rules o k) n)
  is_due (empty_child {k = k} m q g e) = by_offset m q g (first_at 1 (offset_rules o k) (omega arith))

-- THE THEOREM
pub refuses : (d o : List ℕ) (c p : ℕ) → (verdict d o ≡ refuse c p) ↔ Refusal d o c p
unfolding verdict_within
refuses d o c p =
    (λ v. meant_stop (checks_mean d o) (turned_down (checks d o) (count o) (start o ∷ end o ∷ []) v), λ r. refused _ (is_due d o r))
