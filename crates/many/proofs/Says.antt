-- What the code's own answers say: each case of what `get_all` returns, exactly when, in the words of specs/Meaning.antt. An answer that
-- meets the call's promise is meant. Assumes nothing.
use Rattle.rules.proofs.Prelude.{◌≡◌, sym, ◌∙◌, true, false, ◌↔◌, List, ◌++◌, ℕ, ◌*◌, ◌<◌, length, drop, each, false_true}
use Rattle.run.specs.Run.{name}
use Rattle.run.specs.Meaning.{BadEnd}
use Rattle.metadata.proofs.Pinned.{refusal_by as dictionary_by}
use Rattle.layer.specs.declared.Refusal.{Refusal}
use Rattle.layer.specs.Answers.{refusal_number, refusal_place}
use Rattle.object.proofs.Pinned.{refusal_by, refusal_back}
use Rattle.std.specs.Prelude.{Option, Result, Ok, Err}
use Rattle.lookup.specs.declared.Found.{Found}
use Rattle.lookup.specs.Answers.{lookup_numbers}
use Rattle.lookup.specs.Promises.{GetPromise}
use Rattle.many.specs.declared.Refusal.TheVariants as refusal
use Rattle.rows.specs.Rows.{row_of}
use Rattle.many.specs.Many.{row}
use Rattle.many.specs.Meaning.{Answered, NoRoom, RefusedAfter, row_at}
use Rattle.many.specs.Promises.{GetAllPromise}
use Rattle.many.proofs.Means as many
use Rattle.many.proofs.AllRows.{row_of_get}

-- `get_all`, with what it leaves in the words. No case of a refusal has the number 41 or 45
not_41 : (r : Refusal) → refusal_number r ≡ 41 → ⊥
unfolding refusal_by dictionary_by
not_41 r e = false_true (rw e at (refusal_back (λ _. true) false r))

not_45 : (r : Refusal) → refusal_number r ≡ 45 → ⊥
unfolding refusal_by dictionary_by
not_45 r e = false_true (rw e at (refusal_back (λ _. true) false r))

module _ (d o names ends words after : List ℕ) where
  pub all_answered : (n v e : ℕ) → GetAllPromise d o names ends words (Ok (record { count = n; start = v; end = e })) after
      ↔ (Answered d o names ends words n v e × (after ≡ each (row d o names ends) (length ends) ++ drop (5 * length ends) words))
  all_answered n v e =
      let is = many.answered_is d o names ends words n v e in (
        λ p. let a = is.0 (sym p.answers) in (a, p.leaves ∙ many.words_answered d o names ends words n v e a),
        λ p. record { answers = sym (is.1 p.0); leaves = p.1 ∙ sym (many.words_answered d o names ends words n v e p.0) },
      )

  -- and so each name's words are what `get` of that name alone returns
  pub all_as_get : (n v e : ℕ) → GetAllPromise d o names ends words (Ok (record { count = n; start = v; end = e })) after → (k : ℕ) → k < length ends
      → (r : Result (Option Found) Refusal) → GetPromise d o (name names ends k) r → row_at after k ≡ row_of (lookup_numbers r)
  all_as_get n v e p k asked r promised = rw p.leaves (row_of_get d o names ends words n v e ((all_answered n v e).0 p).0 k asked r promised)

  pub all_bad_end : (k : ℕ) → GetAllPromise d o names ends words (Err (refusal.BadEnd k)) after ↔ (BadEnd names ends k × (after ≡ words))
  all_bad_end k =
      let is = many.bad_end_is d o names ends words k in (
        λ p. let b = is.0 (sym p.answers) in (b, p.leaves ∙ many.words_bad_end d o names ends words b),
        λ p. record { answers = sym (is.1 p.0); leaves = p.1 ∙ sym (many.words_bad_end d o names ends words p.0) },
      )

  pub all_no_room : GetAllPromise d o names ends words (Err refusal.NoRoom) after ↔ (NoRoom d o names ends words × (after ≡ words))
  all_no_room =
      let is = many.no_room_is d o names ends words in (
        λ p. let r = is.0 (sym p.answers) in (r, p.leaves ∙ many.words_no_room d o names ends words r),
        λ p. record { answers = sym (is.1 p.0); leaves = p.1 ∙ sym (many.words_no_room d o names ends words p.0) },
      )

  pub all_refused : (r : Refusal) → GetAllPromise d o names ends words (Err (refusal.Layer r)) after
      ↔ (RefusedAfter d o names ends (refusal_number r) (refusal_place r) × (after ≡ words))
  all_refused r =
      let is = many.refused_is d o names ends words (refusal_number r) (refusal_place r) (not_41 r) (not_45 r) in (
        λ p. let due = is.0 (sym p.answers) in (due, p.leaves ∙ many.words_refused d o names ends words due),
        λ p. record { answers = sym (is.1 p.0); leaves = p.1 ∙ sym (many.words_refused d o names ends words p.0) },
      )
