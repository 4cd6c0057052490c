-- What the states of a run say, each exactly when; what settled stays and writes nothing, and 44 too; 10 is never answered; an accepted
-- dictionary stands in the store; and no fewer bytes than those that are wanted settle anything. Assumes nothing.
use lib.Seq.{take-take}
use Rattle.std.specs.Prelude.{Ok, Err}
use Rattle.rules.proofs.Prelude.{◌≡◌, refl, sym, ap, ◌∙◌, ◌↔◌, Bool, true, List, [], ◌∷◌, ℕ, ◌≤◌, ◌<◌, arith, length, take, drop, length-take, take-append-drop}
use Rattle.rules.proofs.Prelude.{⊎_elim, Answer, accept, refuse, code_of, RefusedAs}
use Rattle.dictionary.specs.Dictionary.{width, start, end, verdict}
use Rattle.dictionary.specs.declared.Refusal.{Refusal}
use Rattle.dictionary.specs.declared.Refusal.TheVariants.{TooLong}
use Rattle.dictionary.specs.Answers.{refusal_number, refusal_place}
use Rattle.dictionary.specs.Wanted.{wanted}
use Rattle.dictionary.specs.Meaning.{Dictionary, Refusal as Due}
use Rattle.dictionary.specs.Meaning.Refusal.{too_long}
use Rattle.dictionary.proofs.Laws.{count_before, start_before}
use Rattle.metadata.proofs.Accepts.{accepts}
use Rattle.metadata.proofs.Refuses.{is_due}
use Rattle.metadata.proofs.Fits.{checks_code}
use Rattle.metadata.proofs.Appended.{width_same, start_same, end_same}
use Rattle.metadata.proofs.Cut.{verdict_cut}
use Rattle.pieces.specs.declared.State.{State}
use Rattle.pieces.specs.declared.State.TheVariants.{More, Settled, Full}
use Rattle.pieces.specs.Pieces.{room, unsettled, more, full}
use Rattle.pieces.specs.Feed.{state_numbers, fed, store_after, bytes_of}
use Rattle.pieces.specs.Promises.{FeedPromise}
use Rattle.pieces.specs.Meaning.{Wants, Final, Says, Feeds, NoFewer}
use Rattle.pieces.specs.Meaning.Wants.{first_byte, the_count, the_offsets, the_region}
use Rattle.pieces.specs.Meaning.Feeds.{no_more, one_more}
use Rattle.pieces.specs.Meaning.Says.{wanting, overflowing, accepted, refused}
use Rattle.pieces.proofs.Wanting.{wants_is, Stand, stand}
use Rattle.pieces.proofs.Wanting.Stand.{lacks, settled}
use Rattle.pieces.proofs.Laws.{room_within, past_room, past_stays}
use Rattle.pieces.proofs.Answers.{settled_stays, answers_is}
use Rattle.pieces.proofs.Cutting.{refusal_final, any_cutting, store_holds}
use Rattle.pieces.proofs.Pinned.{state_injective}

-- WHAT STAYS: after a settled answer, and after 44, no piece moves the state or the store
stays : (store piece : List ℕ) (s : State) → (code_of (state_numbers store s) ≡ 3 → ⊥) → (fed store piece s ≡ state_numbers store s) × (store_after store piece s ≡ store)
unfolding fed store_after
stays store piece (More held) final = absurd (final refl)
stays store piece (Settled v) final = (refl, refl)
stays store piece Full final = (refl, refl)

pub rests : {s last : State} {store after : List ℕ} {pieces : List (List ℕ)} → (code_of (state_numbers store s) ≡ 3 → ⊥)
    → Feeds s store pieces last after → (last ≡ s) × (after ≡ store)
rests final no_more = (refl, refl)
rests final (one_more {s = s} {next = next} {store = store} {after = left} {piece = piece} f rest) =
    let same = stays store piece s final in
    let kept : left ≡ store = f.leaves ∙ same.1 in
    let next-is : next ≡ s = state_injective store next s (rw kept at f.answers ∙ same.0) in
    let r = rests (rw (next-is, kept) final) rest in
    (r.0 ∙ next-is, r.1 ∙ kept)

-- a state that counts past the room of its store is 44, and nothing is written
pub past : (store piece : List ℕ) (held : ℕ) (r : State) (after : List ℕ) → room store < held → FeedPromise store piece (More held) r after
    → (r ≡ Full) × (after ≡ store)
past store piece held r after p f =
    (state_injective after r Full (f.answers ∙ past_room store piece held p), f.leaves ∙ past_stays store piece held p)

-- AN ACCEPTED DICTIONARY needs none of the bytes after its trimmed end
module _ (d : List ℕ) (k e : ℕ) (good : Dictionary d k e) where
  front_length : length (take e d) ≡ e
  front_length = length-take e d ∙ omega (arith, good.ends)

  front_whole : {w : ℕ} → Wants (take e d) w → ⊥
  front_whole (first_byte h) = omega (arith, good.ends, front_length, count_before d, start_before d)
  front_whole (the_count b h) =
      let s : width d ≡ width (take e d) = rw take-append-drop at (width_same (take e d) (drop e d) b.sized.not_empty) in
      omega (arith, good.ends, front_length, count_before d, start_before d, s)
  front_whole (the_offsets b f h) =
      let s : start d ≡ start (take e d) = rw take-append-drop at (start_same (take e d) (drop e d) b.count_inside) in
      omega (arith, good.ends, front_length, start_before d, s)
  front_whole (the_region b z f h) =
      let s : end d ≡ end (take e d) = rw take-append-drop at (end_same (take e d) (drop e d) b.start_inside) in
      omega (arith, good.ends, front_length, s)

  pub trimmed : verdict (take e d) ≡ accept (k ∷ e ∷ [])
  trimmed = go (stand (take e d)) refl
    where
      go : {b : Bool} → Stand (take e d) b → unsettled (verdict (take e d)) ≡ b → verdict (take e d) ≡ accept (k ∷ e ∷ [])
      go (lacks w) u = absurd (front_whole w)
      go (settled z) u =
          sym (rw take-append-drop at (settled_stays (take e d) (drop e d) (rw take-append-drop (omega (arith, good.texted))) u)) ∙ (accepts d k e).1 good

-- THE STATES OF A RUN, each exactly when
module _ (store : List ℕ) {last : State} {after : List ℕ} {pieces : List (List ℕ)} (run : Feeds (More 0) store pieces last after) where
  abbrev n : ℕ
  n = room store

  abbrev got : List ℕ
  got = bytes_of pieces

  state_says : (s : State) → (last ≡ s) ↔ Says n got (state_numbers after s)
  state_says s = (
    λ e. (answers_is n got (state_numbers after s)).0 (sym (rw e at (any_cutting store run))),
    λ a. state_injective after last s (any_cutting store run ∙ (answers_is n got (state_numbers after s)).1 a),
  )

  -- more: all that came is held, and it is empty or short
  pub more_is : (h : ℕ) → (last ≡ More h) ↔ ((h ≡ length got) × (length got ≤ n) × Wants got (wanted (take h after)))
  more_is h = (λ e. to ((state_says (More h)).0 e), λ (e, p, w). (state_says (More h)).1 (rw e (wanting p (rw e at w))))
    where
      to : {g w : ℕ} → Says n got (more g w) → (g ≡ length got) × (length got ≤ n) × Wants got w
      to (wanting p w) = (refl, p, w)

  -- 44: more came than there is room for, and what there is room for is short
  pub full_is : (last ≡ Full) ↔ ((n < length got) × Wants (take n got) (wanted (take n got)))
  full_is = (λ e. to ((state_says Full).0 e), λ (p, w). (state_says Full).1 (overflowing p w))
    where
      to : Says n got full → (n < length got) × Wants (take n got) (wanted (take n got))
      to (overflowing p w) = (p, rw (wants_is (take n got) w).0 w)
      to (refused f) = absurd (omega (arith, checks_code (take n got) (is_due (take n got) f.due)))

  -- accepted, and refused for good, as the first bytes are
  pub accepted_is : (k e : ℕ) → (last ≡ Settled (Ok (record { count = k; end = e }))) ↔ Dictionary (take n got) k e
  accepted_is k e = (λ s. to ((state_says (Settled (Ok (record { count = k; end = e })))).0 s), λ d. (state_says (Settled (Ok (record { count = k; end = e })))).1 (accepted d))
    where
      to : Says n got (accept (k ∷ e ∷ [])) → Dictionary (take n got) k e
      to (accepted d) = d

  pub refused_is : (r : Refusal) → (last ≡ Settled (Err r)) ↔ Final (take n got) (refusal_number r) (refusal_place r)
  refused_is r = (λ s. to ((state_says (Settled (Err r))).0 s) (refusal_final r).1, λ f. (state_says (Settled (Err r))).1 (refused f))
    where
      to : {c p : ℕ} → Says n got (refuse c p) → (c ≡ 44 → ⊥) → Final (take n got) c p
      to (overflowing q w) h = absurd (h refl)
      to (refused f) h = f

  -- 10 is never answered: no more than the limit's bytes are judged
  pub never_ten : last ≡ Settled (Err TooLong) → ⊥
  never_ten s = to ((refused_is TooLong).0 s).due
    where
      to : Due (take n got) 10 0 → ⊥
      to (too_long h) = omega (arith, length-take n got, room_within store)

  -- THE ACCEPTED DICTIONARY stands in the store, as it came, up to its trimmed end
  pub stands_there : (k e : ℕ) → last ≡ Settled (Ok (record { count = k; end = e })) → (take e after ≡ take e got) × (verdict (take e after) ≡ accept (k ∷ e ∷ []))
  stands_there k e s =
      let d = (accepted_is k e).0 s in
      let inside : e ≤ length (take n got) = omega (arith, d.ends, d.texted) in
      let first : (m : ℕ) → m < e → take m (take n got) ≡ take m got = λ m q. take-take m n got (omega (arith, length-take n got)) in
      let fewer : NoFewer e got = λ m q. rw (first m q) at (short (verdict_cut (take n got) k e m ((accepts (take n got) k e).1 d) q)) in
      let held = store_holds store run e (omega (arith, length-take n got)) (omega (arith, length-take n got)) fewer in
      let own : take e (take n got) ≡ take e got = take-take e n got (omega (arith, length-take n got)) in
      (held, rw (held, ← own) (trimmed (take n got) k e d))
    where
      short : {a : Answer} → RefusedAs 11 13 a → unsettled a ≡ true
      short r = ⊎_elim (ap unsettled) (ap unsettled) r
