-- What the listing's checks come to, row by row, in the words of specs/Meaning.antt. Assumes nothing.
use Rattle.rules.proofs.Prelude.{◌≡◌, refl, sym, ap, ◌∙◌, Bool, true, false, List, [], ◌∷◌, ℕ, ◌*◌, ◌<◌, length, Passed, ◌<?◌, ◌⇒◌at◌}
use Rattle.rules.proofs.Prelude.{◌&◌, false_true, Meant, by_rows, by_each, meant_then, meant_map}
use Rattle.std.specs.Prelude.{Ok}
use Rattle.lengths.specs.Lengths.{own_length, is_known}
use Rattle.lengths.specs.Meaning.{Due}
use Rattle.lengths.proofs.Means.{exactly_when, is_known_law}
use Rattle.layer.specs.Object.{count, start, end}
use Rattle.layer.specs.Meaning.{Refusal}
use Rattle.object.proofs.Means.{checks_mean}
use Rattle.listing.specs.Words.{child, span, span_rules, list_checks, list_checks_within}
use Rattle.listing.specs.Meaning.{Spans, Listed, NoLength, NoRoom}

-- A CHILD

module _ (o : List ℕ) (k : ℕ) where
  pub passed_spans : Passed (span_rules o k) → Spans o k
  unfolding span_rules span
  passed_spans p = (exactly_when (child o k) _).0 (is_known_law (child o k) p.0)

  pub spans_passed : Spans o k → Passed (span_rules o k)
  unfolding span_rules
  spans_passed s = rw ((exactly_when (child o k) _).1 s) (refl & tt)

  pub none_known : is_known (own_length (child o k)) ≡ false → (n : ℕ) → Due (child o k) (Ok n) → ⊥
  none_known b n d = false_true (sym b ∙ ap is_known ((exactly_when (child o k) (Ok n)).1 d))

  pub known_none : ((n : ℕ) → Due (child o k) (Ok n) → ⊥) → is_known (own_length (child o k)) ≡ false
  known_none none = go (is_known (own_length (child o k))) refl
    where
      go : (b : Bool) → is_known (own_length (child o k)) ≡ b → b ≡ false
      go true e = absurd (none _ ((exactly_when (child o k) _).0 (is_known_law (child o k) e)))
      go false e = refl

-- ALL CHECKS: the layer's refusals, and these two
module _ (d o w : List ℕ) where
  pub data Ours : ℕ → ℕ → Type 0 where
    of_layer : {c p : ℕ} → Refusal d o c p → Ours c p
    no_length : {k : ℕ} → NoLength d o k → Ours 43 k
    no_room : NoRoom d o w → Ours 41 0

  pub list_means : Meant (Listed d o w (count o) (start o) (end o)) Ours (list_checks d o w)
  unfolding list_checks_within span_rules
  list_means =
      meant_then _ (meant_map (λ g. g) (λ c p. of_layer) (checks_mean d o)) λ g.
      meant_then _
      (by_each Ours (span_rules o) (count o) λ k q all.
      (λ h. no_length (record { accepted = g; field = q; before = λ j r. passed_spans o j (all j r); none = none_known o k h })) & λ _. tt)
      λ all.
      let spans : (k : ℕ) → k < count o → Spans o k = λ k q. passed_spans o k (all k q) in
      by_rows _ Ours ((length w <? 3 * count o ⇒ 41 at 0) ∷ [])
      ((λ h. no_room (record { accepted = g; spans = spans; short = h })) & λ f. record { accepted = g; spans = spans; room = f })
