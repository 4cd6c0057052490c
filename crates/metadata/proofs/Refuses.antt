-- A dictionary is refused, with a number and a place, exactly when document 01's table says so, its checks taken in their order (the data
-- type `Refusal` of dictionary/specs/Meaning.antt). Assumes nothing.
use Rattle.rules.proofs.Prelude.{◌≡◌, refl, sym, ◌∙◌, ◌↔◌, List, [], ◌∷◌, ℕ, ◌<◌, arith, refuse, first, stop, ◌&◌, surely, first_at, stops, turned_down, refused}
use Rattle.rules.proofs.Prelude.{each_pass, each_stop, meant_stop}
use Rattle.chars.specs.Rfc3629.{LongestText, Completed}
use Rattle.chars.proofs.Truncated.{truncated}
use Rattle.utf8.specs.Utf8.Judged.{cut, broken}
use Rattle.names.proofs.Laws.{not_below}
use Rattle.dictionary.specs.Dictionary.{count, end, region, entry_rules, checks, verdict, verdict_within}
use Rattle.dictionary.specs.Meaning.{Headed, Texted, GoodEntry, Refusal}
use Rattle.dictionary.specs.Meaning.Refusal.{too_long, empty, other_version, count_cut, start_sum, start_short, first_offset, end_sum, end_short, cut_text, no_text, bad_range, not_above}
use Rattle.dictionary.proofs.Laws.{by_head}
use Rattle.metadata.proofs.Means.{by_judged, by_entries, out, in_passed, passed_in, below_names, good_passed, checks_mean}

-- the first entry that stops, stops all
by_entry : (d : List ℕ) {k c p : ℕ} → Texted d → k < count d → ((j : ℕ) → j < k → GoodEntry d j) → first (entry_rules d k) ≡ stop c p → checks d ≡ stop c p
by_entry d {k} t q before e =
    by_entries d t ∙ each_stop (entry_rules d) k (count d) (each_pass (entry_rules d) k (λ j r. good_passed d j (before j r))) e q

-- each refusal that is due is given
pub is_due : (d : List ℕ) {c p : ℕ} → Refusal d c p → checks d ≡ stop c p
unfolding entry_rules
is_due d (too_long h) = by_head d (first_at 0 _ h)
is_due d (empty e) = by_head d (first_at 1 _ (omega arith))
is_due d (other_version b h) = by_head d (first_at 2 _ (omega arith))
is_due d (count_cut b h) = by_head d (first_at 3 _ (omega arith))
is_due d (start_sum b h) = by_head d (first_at 4 _ (omega arith))
is_due d (start_short b f h) = by_head d (first_at 5 _ (omega arith))
is_due d (first_offset b h) = by_head d (first_at 6 _ (omega arith))
is_due d (end_sum b z h) = by_head d (first_at 7 _ (omega arith))
is_due d (end_short b z f h) = by_head d (first_at 8 _ (omega arith))
is_due d (cut_text h l b) = by_judged d h (cut l b) ∙ stops _ refl
is_due d (no_text h l n) = by_judged d h (broken l n) ∙ stops _ refl
is_due d (bad_range {k = k} t q g n) = by_entry d t q g (first_at 0 (entry_rules d k) (surely (out d k) (λ f. n (passed_in d k f))))
is_due d (not_above {k = k} t q g r s z n) =
    by_entry d t q g (first_at 1 (entry_rules d k) (in_passed d k r & s & z & (sym (below_names d k z) ∙ not_below _ _ n)))

-- THE THEOREM
pub refuses : (d : List ℕ) (c p : ℕ) → (verdict d ≡ refuse c p) ↔ Refusal d c p
unfolding verdict_within
refuses d c p = (λ v. meant_stop (checks_mean d) (turned_down (checks d) (count d) (end d ∷ []) v), λ r. refused _ (is_due d r))

-- WHAT SUPPORT ASKS: of names that are no text, 19 says that there are further bytes with which they are one, and 16 that there are none.
module _ (d : List ℕ) (p : ℕ) where
  abbrev pub NoText : Type 0
  NoText = Headed d × LongestText (region d) p

  pub cut_off : Refusal d 19 p ↔ (NoText × Completed (region d))
  cut_off = (to, λ t. cut_text t.0.0 t.0.1 ((truncated (region d) p t.0.1).1 t.1))
    where
      to : Refusal d 19 p → NoText × Completed (region d)
      to (cut_text h l b) = ((h, l), (truncated (region d) p l).0 b)

  pub corrupt : Refusal d 16 p ↔ (NoText × (Completed (region d) → ⊥))
  corrupt = (to, λ t. no_text t.0.0 t.0.1 (λ b. t.1 ((truncated (region d) p t.0.1).0 b)))
    where
      to : Refusal d 16 p → NoText × (Completed (region d) → ⊥)
      to (no_text h l n) = ((h, l), λ c. n ((truncated (region d) p l).1 c))
