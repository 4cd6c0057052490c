-- What the checks come to, row by row: where all pass, the rules of an accepted dictionary hold; where one stops, that refusal is due.
-- Accepts.antt and Refuses.antt draw their theorems from it. Assumes nothing.
use Rattle.std.specs.Prelude.{Result, ⊤}
use Rattle.rules.proofs.Prelude.{◌≡◌, refl, sym, ap, ◌∙◌, List, ℕ, ◌+◌, ◌-◌, ◌<◌, arith}
use Rattle.rules.proofs.Prelude.{Test, Fails, Passed, first, each, ◌or◌, ◌or_else◌, pass, ◌&◌, false_true, unless}
use Rattle.rules.proofs.Prelude.{never, goes, Meant, Cases, by_rows, by_each, meant_then, meant_map, meant_pass}
use Rattle.rules.proofs.Laws.Meant.{all_pass, one_stops}
use Rattle.part.specs.Part.{part}
use Rattle.utf8.specs.declared.Flaw.{Flaw}
use Rattle.utf8.specs.Utf8.{Judged}
use Rattle.utf8.specs.Utf8.Judged.{whole, cut, broken}
use Rattle.utf8.proofs.Judges.{judged, judges}
use Rattle.names.specs.Order.{below}
use Rattle.names.proofs.Laws.{below_before, before_below}
use Rattle.dictionary.specs.Dictionary.{count, offset, end, region, name, cuts, outside, head_rules, region_rules, entry_rules, checks, checks_within}
use Rattle.dictionary.specs.Meaning.{Sized, Versioned, Counted, Placed, Headed, Texted, Cut, InRange, GoodEntry, Dictionary, Refusal}
use Rattle.dictionary.specs.Meaning.Refusal.{too_long, empty, other_version, count_cut, start_sum, start_short, first_offset, end_sum, end_short, cut_text, no_text, bad_range, not_above}
use Rattle.dictionary.proofs.Laws.{by_region, found_in, by_text}

module _ (d : List ℕ) where
  -- THE HEADER
  head_means : Meant (Headed d) (Refusal d) (first (head_rules d))
  head_means =
      by_rows (Headed d) (Refusal d) (head_rules d)
      (too_long & λ f10.
      (λ h. empty (omega arith)) & λ f11.
      let sized : Sized d = record { not_long = f10; not_empty = f11 } in
      other_version sized & λ f12.
      let versioned : Versioned d = record { sized = sized; version_one = f12 } in
      count_cut versioned & λ f13.
      let counted : Counted d = record { versioned = versioned; count_inside = f13 } in
      start_sum counted & λ f14.
      start_short counted f14 & λ f13'.
      let placed : Placed d = record { counted = counted; start_fits = f14; start_inside = f13' } in
      first_offset placed & λ f15.
      end_sum placed f15 & λ f14'.
      end_short placed f15 f14' & λ f13''.
      record { placed = placed; first_zero = f15; end_fits = f14'; end_inside = f13'' })

  pub head_passed : Headed d → Passed (head_rules d)
  head_passed h = omega arith

  -- THE REGION
  region_means : Headed d → Meant (Texted d) (Refusal d) (first (region_rules (region d)))
  region_means headed = rw (by_text (region d)) (go (judged (region d)))
    where
      go : {v : Result ⊤ Flaw} → Judged (region d) v → Meant (Texted d) (Refusal d) (found_in v)
      go (whole t) = all_pass (record { headed = headed; is_text = t })
      go (cut l b) = one_stops (cut_text headed l b)
      go (broken l n) = one_stops (no_text headed l n)

  -- what the region is decides, where the header passes
  pub by_judged : Headed d → {v : Result ⊤ Flaw} → Judged (region d) v → checks d ≡ (found_in v or_else first (each (entry_rules d) (count d)))
  by_judged h {v} j = by_region d (head_passed h) (by_text (region d) ∙ ap found_in (sym ((judges (region d) v).1 j)))

  -- and then the entries decide
  pub by_entries : Texted d → checks d ≡ first (each (entry_rules d) (count d))
  by_entries t = by_judged t.headed (whole t.is_text) ∙ goes _ refl

  -- AN ENTRY: its offsets, as the row tests them
  abbrev pub out : ℕ → Test
  out k = cuts (region d) (offset d k) or outside (region d) (offset d k) (offset d (k + 1))

  pub in_passed : (k : ℕ) → InRange d k → Fails (out k)
  in_passed k r =
      unless (cuts (region d) (offset d k)) (λ h. r.start_whole (record { inside = h.0; on_tail = h.1 }))
      & r.rises
      & r.stays
      & unless (cuts (region d) (offset d (k + 1))) (λ h. r.end_whole (record { inside = h.0; on_tail = h.1 }))

  pub passed_in : (k : ℕ) → Fails (out k) → InRange d k
  passed_in k f =
      let whole : (j : ℕ) → Fails (cuts (region d) (offset d j)) → Cut d j → ⊥ = λ j g c. never (cuts (region d) (offset d j)) g (c.inside & c.on_tail) in
      record { rises = f.1.0; stays = f.1.1.0; start_whole = whole k f.0; end_whole = whole (k + 1) f.1.1.1 }

  -- the order of names, as the row tests it
  pub below_names : (k : ℕ) → 0 < k
      → below (name d (k - 1)) (name d k) ≡ below (part (region d) (offset d (k - 1)) (offset d k)) (part (region d) (offset d k) (offset d (k + 1)))
  unfolding name
  below_names k p = let k-is : k - 1 + 1 ≡ k = omega arith in rw k-is

  -- so a good one passes, and one that passes is good
  pub good_passed : (k : ℕ) → GoodEntry d k → Passed (entry_rules d k)
  unfolding entry_rules
  good_passed k g = in_passed k g.in_range & (λ s p. sym (below_names k p) ∙ before_below (g.above s p)) & tt

  passed_good : (k : ℕ) → Passed (entry_rules d k) → GoodEntry d k
  unfolding entry_rules
  passed_good k h = record { in_range = passed_in k h.0; above = λ s p. below_before _ _ (below_names k p ∙ h.1.0 s p) }

  entry_refuses : Texted d → (k : ℕ) → k < count d → ((j : ℕ) → j < k → GoodEntry d j) → Cases (Unit {0}) (Refusal d) (entry_rules d k)
  unfolding entry_rules
  entry_refuses t k q good =
      (λ h. bad_range t q good (λ r. never (out k) (in_passed k r) h)) & λ f.
      (λ h. not_above t q good (passed_in k f) h.0 h.1.0 (λ b. false_true (sym (below_names k h.1.0 ∙ h.1.1) ∙ before_below b))) & λ _. tt

  -- ALL CHECKS
  pub checks_mean : Meant (Dictionary d (count d) (end d)) (Refusal d) (checks d)
  unfolding checks_within
  checks_mean =
      meant_then _ head_means λ h.
      meant_then _ (region_means h) λ t.
      meant_map (λ all. record { texted = t; entries = λ k q. passed_good k (all k q); counts = refl; ends = refl }) (λ c p b. b)
      (by_each (Refusal d) (entry_rules d) (count d) λ k q all. entry_refuses t k q (λ j r. passed_good j (all j r)))

  pub good : checks d ≡ pass → Dictionary d (count d) (end d)
  good e = meant_pass checks_mean e
