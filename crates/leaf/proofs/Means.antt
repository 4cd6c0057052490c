-- A leaf, exactly when: it is let through exactly if it is good, and refused exactly with what is due, in the words of specs/Meaning.antt.
-- Assumes nothing.
use Rattle.rules.proofs.Prelude.{◌≡◌, refl, ◌∙◌, ◌↔◌, List, ℕ, ◌<◌, arith, length, get_or, first, ◌or_else◌, pass, stop}
use Rattle.rules.proofs.Prelude.{◌&◌, Meant, by_rows, meant_pass, meant_stop, first_at, first_pass, surely, ◌<?◌}
use Rattle.std.specs.Prelude.{Result, Ok, Err}
use Rattle.rules.proofs.Laws.Meant.{one_stops}
use Rattle.chars.proofs.Laws.{text_whole, text_all}
use Rattle.lengths.specs.declared.Flaw.{Flaw}
use Rattle.lengths.specs.declared.Flaw.TheVariants.{Cut, Sum, Unknown, Longer}
use Rattle.encoding.specs.Encoding.{header_of}
use Rattle.lengths.specs.Lengths.{own_length}
use Rattle.chars.specs.Rfc3629.{Text, text_up_to}
use Rattle.leaf.specs.Leaf.{length_found, text, text_rules, leaf}
use Rattle.leaf.specs.Meaning.{GoodLeaf, Refusal}
use Rattle.leaf.specs.Meaning.Refusal.{header_cut, past_range, past_bytes, no_such_type, not_text}
use Rattle.leaf.proofs.Laws.{length_stops, leaf_by_text}

-- the longest text of bytes that are none ends before them
text_ends : (x : List ℕ) → (Text x → ⊥) → text_up_to x < length x
text_ends x none = surely (text_up_to x <? length x) (λ f. none (text_all x f))

module _ (s : List ℕ) where
  -- WHAT IS ANSWERED IS SO
  pub mean : Meant (GoodLeaf s) (Refusal s) (leaf s)
  unfolding leaf length_found text_rules ◌or_else◌
  mean = go (own_length s) refl
    where
      go : (l : Result ℕ Flaw) → own_length s ≡ l → Meant (GoodLeaf s) (Refusal s) (length_found l or_else first (text_rules (header_of (get_or s 0 0)) s))
      go (Ok n) e =
          by_rows (GoodLeaf s) (Refusal s) (text_rules (header_of (get_or s 0 0)) s)
          ((λ h. not_text e h.0 (λ t. omega (arith, h.1, text_whole _ t))) & λ f.
          record { bytes = n; measured = e; is_text = λ b. text_all (text (header_of (get_or s 0 0)) s) (f b) })
      go (Err Cut) e = one_stops (header_cut e)
      go (Err Sum) e = one_stops (past_range e)
      go (Err Unknown) e = one_stops (no_such_type e)
      go (Err Longer) e = one_stops (past_bytes e)

  pub good : leaf s ≡ pass → GoodLeaf s
  good = meant_pass mean

  -- AND WHAT IS SO IS ANSWERED
  pub all_pass : GoodLeaf s → leaf s ≡ pass
  unfolding text_rules
  all_pass g =
      leaf_by_text s g.bytes g.measured
      ∙ first_pass (text_rules (header_of (get_or s 0 0)) s) ((λ b. omega (arith, text_whole _ (g.is_text b))) & tt)

  pub is_due : {c p : ℕ} → Refusal s c p → leaf s ≡ stop c p
  unfolding length_found text_rules
  is_due (header_cut e) = length_stops s e refl
  is_due (past_range e) = length_stops s e refl
  is_due (past_bytes e) = length_stops s e refl
  is_due (no_such_type e) = length_stops s e refl
  is_due (not_text {n = n} e b none) =
      leaf_by_text s n e ∙ first_at 0 (text_rules (header_of (get_or s 0 0)) s) (b, text_ends (text (header_of (get_or s 0 0)) s) none)

  -- THE THEOREMS
  pub accepts : (leaf s ≡ pass) ↔ GoodLeaf s
  accepts = (good, all_pass)

  pub refuses : {c p : ℕ} → (leaf s ≡ stop c p) ↔ Refusal s c p
  refuses = (meant_stop mean, is_due)
