-- What the code's own answers say: each case of what a call returns, exactly when, in the words of dictionary/specs/Meaning.antt. An answer
-- that meets the call's promise is meant. Assumes nothing.
use Rattle.std.specs.Prelude.{Ok, Err, Some, None}
use Rattle.rules.proofs.Prelude.{◌≡◌, sym, ◌∙◌, true, false, ◌↔◌, List, [], ◌++◌, ℕ, ◌≤◌, ◌<◌, arith, lt-ltb, le-ltb, length, drop, refuse, accept, ◌<?◌}
use Rattle.rules.proofs.Prelude.{◌≤?◌, swap, false_true, unless, first_at, first_pass, refused, answered, meant_stop}
use Rattle.chars.specs.Rfc3629.{Completed}
use Rattle.dictionary.specs.declared.Refusal.{Refusal}
use Rattle.dictionary.specs.declared.Refusal.TheVariants.{NotUtf8, CutText}
use Rattle.dictionary.specs.declared.Header.{Header}
use Rattle.dictionary.specs.Dictionary.{region, empty_bytes, emptied, room_after}
use Rattle.dictionary.specs.Answers.{refusal_number, refusal_place}
use Rattle.dictionary.specs.Meaning.{Dictionary, Refusal as Due, Named, NoEntry}
use Rattle.part.specs.declared.Span.{Span}
use Rattle.metadata.specs.Steps.{CheckedOf}
use Rattle.metadata.specs.Promises.{CheckPromise, GetPromise, WriteEmptyPromise}
use Rattle.metadata.proofs.Means.{good, checks_mean}
use Rattle.metadata.proofs.Accepts.{accepts}
use Rattle.metadata.proofs.Refuses.{is_due, refuses, NoText, cut_off, corrupt}
use Rattle.metadata.proofs.Names.{named, no_entry, refused_is}
use Rattle.metadata.proofs.Pinned.{refusal_by, refusal_back}

-- no case of a refusal has the number 31
not_31 : (r : Refusal) → refusal_number r ≡ 31 → ⊥
unfolding refusal_by
not_31 r e = false_true (rw e at (refusal_back (λ _. true) false r))

module _ (d : List ℕ) where
  -- `check`
  pub check_accepted : (n e : ℕ) → CheckPromise d (Ok (record { count = n; end = e })) ↔ Dictionary d n e
  check_accepted n e = swap (accepts d n e)

  pub check_refused : (r : Refusal) → CheckPromise d (Err r) ↔ Due d (refusal_number r) (refusal_place r)
  check_refused r = swap (refuses d (refusal_number r) (refusal_place r))

  pub check_cut : (p : ℕ) → CheckPromise d (Err (CutText p)) ↔ (NoText d p × Completed (region d))
  check_cut p = (λ e. (cut_off d p).0 ((check_refused (CutText p)).0 e), λ t. (check_refused (CutText p)).1 ((cut_off d p).1 t))

  pub check_corrupt : (p : ℕ) → CheckPromise d (Err (NotUtf8 p)) ↔ (NoText d p × (Completed (region d) → ⊥))
  check_corrupt p = (λ e. (corrupt d p).0 ((check_refused (NotUtf8 p)).0 e), λ t. (check_refused (NotUtf8 p)).1 ((corrupt d p).1 t))

  -- `checked`
  pub checked_good : (h : Header) → CheckedOf d (Ok h) → Dictionary d h.count h.end
  checked_good h (o, e) = rw (o.count_is, o.end_is) (good d e)

  pub checked_refused : (r : Refusal) → CheckedOf d (Err r) ↔ Due d (refusal_number r) (refusal_place r)
  checked_refused r = (meant_stop (checks_mean d), is_due d)

  -- `get`
  module _ (i : ℕ) where
    pub get_named : (s : Span) → GetPromise d i (Ok (Some s)) ↔ Named d i s.start s.end
    get_named s = swap (named d i s.start s.end)

    pub get_no_entry : GetPromise d i (Ok None) ↔ NoEntry d i
    get_no_entry = swap (no_entry d i)

    pub get_refused : (r : Refusal) → GetPromise d i (Err r) ↔ Due d (refusal_number r) (refusal_place r)
    get_refused r = swap (refused_is d i (refusal_number r) (refusal_place r) (not_31 r))

-- `write_empty`
module _ (room : List ℕ) where
  pub too_small : length room < 3 → (emptied room ≡ refuse 42 0) × (room_after room ≡ room)
  unfolding emptied room_after
  too_small h = (refused _ (first_at 0 _ h), rw (lt-ltb _ _ h))

  pub enough : 3 ≤ length room → (emptied room ≡ accept []) × (room_after room ≡ empty_bytes ++ drop 3 room)
  unfolding emptied room_after
  enough h = (answered _ (first_pass _ (h, tt)), rw (le-ltb _ _ h))

  never_both : emptied room ≡ refuse 42 0 → emptied room ≡ accept [] → ⊥
  never_both a b = let z : ◌≡◌ {A = ℕ} 0 42 = cc in omega arith

  pub no_room : (emptied room ≡ refuse 42 0) ↔ (length room < 3)
  no_room = (λ e. unless (3 ≤? length room) (λ h. never_both e (enough h).0), λ h. (too_small h).0)

  pub is_written : (emptied room ≡ accept []) ↔ (3 ≤ length room)
  is_written = (λ e. unless (length room <? 3) (λ h. never_both (too_small h).0 e), λ h. (enough h).0)

  pub empty_no_room : (after : List ℕ) → WriteEmptyPromise room (Err (record {})) after ↔ ((length room < 3) × (after ≡ room))
  empty_no_room after = (
    λ w. let h = no_room.0 (sym w.answers) in (h, w.leaves ∙ (too_small h).1),
    λ k. let w = too_small k.0 in record { answers = sym w.0; leaves = k.1 ∙ sym w.1 },
  )

  pub empty_written : (after : List ℕ) → WriteEmptyPromise room (Ok tt) after ↔ ((3 ≤ length room) × (after ≡ empty_bytes ++ drop 3 room))
  empty_written after = (
    λ w. let h = is_written.0 (sym w.answers) in (h, w.leaves ∙ (enough h).1),
    λ k. let w = enough k.0 in record { answers = sym w.0; leaves = k.1 ∙ sym w.1 },
  )
