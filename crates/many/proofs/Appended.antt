-- Bytes added after the dictionary, after the object or after both, each within the limit, change neither the answer of many names nor its
-- words, unless it was empty or short (11, 13, 21 or 23); nor do bytes after the run of names, where its ends are good. Assumes nothing.
use Rattle.rules.proofs.Prelude.{◌≡◌, refl, false, List, [], ◌∷◌, ◌++◌, ℕ, ◌*◌, ◌≤◌, ◌<◌, arith, length, drop, Found, Stays, code_of, first, unless_refused, each, each_same}
use Rattle.rules.proofs.Prelude.{◌otherwise◌, ◌<?◌, ◌⇒◌at◌, pass, stop, both_pass, same_stays, stays_then, stays_answer}
use Rattle.run.specs.Run as run
use Rattle.run.specs.Meaning.{GoodEnds}
use Rattle.run.proofs.Means as run-means
use Rattle.run.proofs.Appended.{checks_appended, name_appended}
use Rattle.dictionary.specs.Limits.{limit}
use Rattle.layer.specs.Object.{checks, layer}
use Rattle.object.proofs.Means.{good}
use Rattle.object.proofs.Refuses.{is_due}
use Rattle.object.proofs.Appended.{lifted, Settled, unlifted, layer_same, checks_kept}
use Rattle.lookup.specs.ByName.{lookup}
use Rattle.lookup.proofs.Finds.{by_answer}
use Rattle.lookup.proofs.Appended.{lookup_appended}
use Rattle.many.specs.Many.{row, row_within, many_checks, many_checks_within, lookups, lookups_within, rows_after, rows_after_within}

-- an answer over an accepted layer is settled: it is 0 or 1
settled : (d o q : List ℕ) → checks d o ≡ pass → Settled (code_of (lookup d o q))
settled d o q passes =
    by_answer d o q (λ x. Settled (code_of x)) (λ k i a e _. below 0 (omega arith)) (λ _. below 1 (omega arith)) λ c p r.
    let stops : checks d o ≡ stop c p = is_due d o r in
    let z : ◌≡◌ {A = ℕ} 0 1 = cc in absurd (omega arith)
  where
    below : (c : ℕ) → c < 11 → Settled c
    below c h = record { not_empty_dictionary = λ e. omega arith; not_short_dictionary = λ e. omega arith; not_empty = λ e. omega arith; not_short = λ e. omega arith }

module _ (d t o u names ends words : List ℕ) (dictionary-limit : length (d ++ t) ≤ limit) (object-limit : length (o ++ u) ≤ limit) where
  abbrev room : Found
  room = first ((length words <? 5 * length ends ⇒ 41 at 0) ∷ [])

  abbrev written : List ℕ → List ℕ → List ℕ
  written x y = each (row x y names ends) (length ends) ++ drop (5 * length ends) words

  abbrev more : Found
  more = many_checks (d ++ t) (o ++ u) names ends words

  many_kept : Stays lifted (many_checks d o names ends words) more
  unfolding many_checks_within
  many_kept =
      stays_then lifted (run.checks names ends) (run.checks names ends) _ _ (same_stays lifted (run.checks names ends)) λ _.
      stays_then lifted (checks d o) (checks (d ++ t) (o ++ u)) room room (checks_kept d t o u dictionary-limit object-limit) λ _.
      same_stays lifted room

  accepted : many_checks d o names ends words ≡ pass → checks d o ≡ pass
  unfolding many_checks_within
  accepted e = (both_pass (checks d o) _ (both_pass (run.checks names ends) _ e).1).0

  pub lookups_appended : Settled (code_of (lookups d o names ends words)) → lookups (d ++ t) (o ++ u) names ends words ≡ lookups d o names ends words
  unfolding lookups_within
  lookups_appended s =
      stays_answer lifted (many_checks d o names ends words) more _ _ many_kept (λ e. let g = good d o (accepted e) in layer_same o u (omega arith)) (unlifted _ s)

  written_same : checks d o ≡ pass → written (d ++ t) (o ++ u) ≡ written d o
  unfolding row_within
  written_same e =
      rw (each_same (row (d ++ t) (o ++ u) names ends) (row d o names ends) (length ends) λ k p.
      let q = run.name names ends k in rw (lookup_appended d t o u q dictionary-limit object-limit (settled d o q e)))

  pub rows_appended : Settled (code_of (lookups d o names ends words)) → rows_after (d ++ t) (o ++ u) names ends words ≡ rows_after d o names ends words
  unfolding lookups_within rows_after_within ◌otherwise◌
  rows_appended s = go (many_checks d o names ends words) many_kept (λ e. written_same (accepted e)) (unlifted _ s)
    where
      go : (f : Found) → Stays lifted f more → (f ≡ pass → written (d ++ t) (o ++ u) ≡ written d o) → lifted (code_of (f otherwise layer o)) ≡ false
          → unless_refused more (written (d ++ t) (o ++ u)) words ≡ unless_refused f (written d o) words
      go pass k h e = rw k (h refl)
      go (stop c p) k h e = rw (k e)

-- AFTER THE RUN OF NAMES
module _ (d o names more ends words : List ℕ) (ends-good : GoodEnds names ends) where
  checks_same : many_checks d o (names ++ more) ends words ≡ many_checks d o names ends words
  unfolding many_checks_within
  checks_same = rw (checks_appended names more ends ends-good, (run-means.good names ends).1 ends-good)

  pub run_appended : lookups d o (names ++ more) ends words ≡ lookups d o names ends words
  unfolding lookups_within
  run_appended = rw checks_same

  pub rows_run_appended : rows_after d o (names ++ more) ends words ≡ rows_after d o names ends words
  unfolding rows_after_within row_within
  rows_run_appended =
      rw (checks_same, each_same (row d o (names ++ more) ends) (row d o names ends) (length ends) (λ k p. rw (name_appended names more ends ends-good k p)))
