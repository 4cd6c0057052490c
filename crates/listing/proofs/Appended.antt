-- Bytes added after the dictionary, after the object or after both, each within the limit, change neither the listing nor its words, unless
-- the answer was empty or short (11, 13, 21 or 23). Assumes nothing.
use Rattle.rules.proofs.Prelude.{◌≡◌, refl, false, List, [], ◌∷◌, ◌++◌, ℕ, ◌+◌, ◌*◌, ◌≤◌}
use Rattle.rules.proofs.Prelude.{◌<◌, arith, length, drop, Found, Stays, code_of, first, each, ◌or_else◌}
use Rattle.rules.proofs.Prelude.{unless_refused, each_same, ◌otherwise◌, ◌<?◌, ◌⇒◌at◌, pass, stop, both_pass, same_stays, stays_then, stays_answer}
use Rattle.dictionary.specs.Limits.{limit}
use Rattle.part.proofs.Laws.{part_append}
use Rattle.layer.specs.Object.{count, offset, start, end, checks, layer}
use Rattle.layer.specs.Meaning.{InRegion}
use Rattle.layer.proofs.Laws.{end_is}
use Rattle.object.proofs.Means.{good}
use Rattle.object.proofs.Appended.{lifted, Settled, unlifted, counted, count_same, start_same, id_same, offset_same, end_same, layer_same, checks_kept}
use Rattle.listing.specs.Words.{child, span, span_rules, row, rows, list_checks, list_checks_within, listed, listed_within, words_after, words_after_within}

module _ (o u : List ℕ) (h : start o ≤ length o) where
  -- A CHILD that lies within the bytes is the same, and so is all that is said of it
  module _ (whole : end o ≤ length o) (k : ℕ) (p : k < count o) (here : InRegion o k) where
    child_same : child (o ++ u) k ≡ child o k
    unfolding child
    child_same =
        rw (start_same o u (counted o u h), offset_same o u h k (omega arith), end_same o u h)
        (part_append o u (start o + offset o k) (end o) (omega (arith, end_is o)) whole)

    span_same : span (o ++ u) k ≡ span o k
    unfolding span
    span_same = rw child_same

    rules_same : span_rules (o ++ u) k ≡ span_rules o k
    unfolding span_rules
    rules_same = rw child_same

  rows_same : end o ≤ length o → ((k : ℕ) → k < count o → InRegion o k) → (n : ℕ) → n ≤ count o → rows (o ++ u) n ≡ rows o n
  unfolding row
  rows_same whole here n p =
      each_same (row (o ++ u)) (row o) n λ k q.
      let r : k < count o = omega arith in
      rw (id_same o u h k r, start_same o u (counted o u h), offset_same o u h k (omega arith), span_same whole k r (here k r))

module _ (d t o u w : List ℕ) (dictionary-limit : length (d ++ t) ≤ limit) (object-limit : length (o ++ u) ≤ limit) where
  -- the last two checks, and the words of a listing that is not refused
  abbrev measured : List ℕ → Found
  measured x = first (each (span_rules x) (count x))

  abbrev room : List ℕ → Found
  room x = first ((length w <? 3 * count x ⇒ 41 at 0) ∷ [])

  abbrev written : List ℕ → List ℕ
  written x = rows x (count x) ++ drop (3 * count x) w

  list_kept : Stays lifted (list_checks d o w) (list_checks (d ++ t) (o ++ u) w)
  unfolding list_checks_within
  list_kept =
      stays_then lifted (checks d o) (checks (d ++ t) (o ++ u)) (measured o or_else room o) (measured (o ++ u) or_else room (o ++ u))
      (checks_kept d t o u dictionary-limit object-limit) λ e.
      let g = good d o e in
      let same : each (span_rules (o ++ u)) (count o) ≡ each (span_rules o) (count o) =
      each_same (span_rules (o ++ u)) (span_rules o) (count o) λ k p. rules_same o u (omega arith) (omega arith) k p (g.offsets k p) in
      rw (count_same o u (omega arith), same) (same_stays lifted (measured o or_else room o))

  accepted : list_checks d o w ≡ pass → checks d o ≡ pass
  unfolding list_checks_within
  accepted e = (both_pass (checks d o) _ e).0

  pub listed_appended : Settled (code_of (listed d o w)) → listed (d ++ t) (o ++ u) w ≡ listed d o w
  unfolding listed_within
  listed_appended s =
      stays_answer lifted (list_checks d o w) (list_checks (d ++ t) (o ++ u) w) _ _ list_kept (λ e. let g = good d o (accepted e) in layer_same o u (omega arith)) (unlifted _ s)

  pub words_appended : Settled (code_of (listed d o w)) → words_after (d ++ t) (o ++ u) w ≡ words_after d o w
  unfolding listed_within words_after_within ◌otherwise◌
  words_appended s = go (list_checks d o w) list_kept same (unlifted _ s)
    where
      same : list_checks d o w ≡ pass → written (o ++ u) ≡ written o
      same e =
          let g = good d o (accepted e) in
          rw (count_same o u (omega arith), rows_same o u (omega arith) (omega arith) g.offsets (count o) (omega arith))

      go : (f : Found) → Stays lifted f (list_checks (d ++ t) (o ++ u) w) → (f ≡ pass → written (o ++ u) ≡ written o) → lifted (code_of (f otherwise layer o)) ≡ false
          → unless_refused (list_checks (d ++ t) (o ++ u) w) (written (o ++ u)) w ≡ unless_refused f (written o) w
      go pass k h e = rw k (h refl)
      go (stop c p) k h e = rw (k e)
