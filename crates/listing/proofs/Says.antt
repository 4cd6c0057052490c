-- What the code's own answers say: each case of what `list` returns with what it leaves in the words, exactly when, in the words of
-- specs/Meaning.antt. An answer that meets the promise is meant. Assumes nothing.
use Rattle.rules.proofs.Prelude.{◌≡◌, sym, ◌∙◌, true, false, ◌↔◌, List, ◌++◌, ℕ, ◌*◌, drop, false_true}
use Rattle.metadata.proofs.Pinned.{refusal_by as dictionary_by}
use Rattle.layer.specs.declared.Refusal.{Refusal}
use Rattle.layer.specs.Answers.{refusal_number, refusal_place}
use Rattle.layer.specs.Meaning.{Refusal as Due}
use Rattle.object.proofs.Pinned.{refusal_by, refusal_back}
use Rattle.std.specs.Prelude.{Ok, Err}
use Rattle.listing.specs.declared.Refusal.TheVariants as refusal
use Rattle.listing.specs.Words.{rows}
use Rattle.listing.specs.Meaning.{Listed, NoLength, NoRoom}
use Rattle.listing.specs.Promises.{ListPromise}
use Rattle.listing.proofs.Lists.{words_listed, words_stay, no_length_stops, no_room_stops, refusal_stops, listed_is, no_length_is, no_room_is, refused_is}

-- no case of a refusal has a number of the listing's own
not_41 : (r : Refusal) → refusal_number r ≡ 41 → ⊥
unfolding refusal_by dictionary_by
not_41 r e = false_true (rw e at (refusal_back (λ _. true) false r))

not_43 : (r : Refusal) → refusal_number r ≡ 43 → ⊥
unfolding refusal_by dictionary_by
not_43 r e = false_true (rw e at (refusal_back (λ _. true) false r))

module _ (d o w after : List ℕ) where
  pub list_listed : (n v e : ℕ) → ListPromise d o w (Ok (record { count = n; start = v; end = e })) after ↔ (Listed d o w n v e × (after ≡ rows o n ++ drop (3 * n) w))
  list_listed n v e =
      let is = listed_is d o w n v e in (
        λ p. let l = is.0 (sym p.answers) in (l, p.leaves ∙ words_listed d o w n v e l),
        λ p. record { answers = sym (is.1 p.0); leaves = p.1 ∙ sym (words_listed d o w n v e p.0) },
      )

  pub list_no_length : (k : ℕ) → ListPromise d o w (Err (refusal.NoLength k)) after ↔ (NoLength d o k × (after ≡ w))
  list_no_length k =
      let is = no_length_is d o w k in (
        λ p. let r = is.0 (sym p.answers) in (r, p.leaves ∙ words_stay d o w (no_length_stops d o w k r)),
        λ p. record { answers = sym (is.1 p.0); leaves = p.1 ∙ sym (words_stay d o w (no_length_stops d o w k p.0)) },
      )

  pub list_no_room : ListPromise d o w (Err refusal.NoRoom) after ↔ (NoRoom d o w × (after ≡ w))
  list_no_room =
      let is = no_room_is d o w in (
        λ p. let r = is.0 (sym p.answers) in (r, p.leaves ∙ words_stay d o w (no_room_stops d o w r)),
        λ p. record { answers = sym (is.1 p.0); leaves = p.1 ∙ sym (words_stay d o w (no_room_stops d o w p.0)) },
      )

  pub list_refused : (r : Refusal) → ListPromise d o w (Err (refusal.Layer r)) after ↔ (Due d o (refusal_number r) (refusal_place r) × (after ≡ w))
  list_refused r =
      let is = refused_is d o w (refusal_number r) (refusal_place r) (not_41 r) (not_43 r) in (
        λ p. let due = is.0 (sym p.answers) in (due, p.leaves ∙ words_stay d o w (refusal_stops d o w due)),
        λ p. record { answers = sym (is.1 p.0); leaves = p.1 ∙ sym (words_stay d o w (refusal_stops d o w p.0)) },
      )
