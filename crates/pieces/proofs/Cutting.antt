-- THE THEOREM of pieces: fed one after another from the first state over one store, any pieces answer what their bytes answer at once, so
-- that the answer does not depend on the cutting; and the store holds the bytes received up to those that settled it. Assumes nothing.
use mathlib.Core.List.{append-nil}
use lib.Seq.{length-sets, take-append-le, take-append_seam, take-take, take-length}
use Rattle.std.specs.Prelude.{Result, Ok, Err}
use Rattle.rules.proofs.Prelude.{◌≡◌, refl, sym, ap, ◌∙◌, true, false, List, [], ◌++◌, append_assoc, ℕ, ◌+◌, ◌-◌, ◌≤◌, ◌<◌}
use Rattle.rules.proofs.Prelude.{dec_lt, arith, length, take, length-append, Answer, code_of, false_true}
use Rattle.dictionary.specs.Limits.{limit}
use Rattle.dictionary.specs.Dictionary.{verdict}
use Rattle.dictionary.specs.declared.Refusal.{Refusal}
use Rattle.dictionary.specs.Answers.{refusal_number}
use Rattle.metadata.specs.declared.Accepted.{Accepted}
use Rattle.metadata.specs.Answers.{verdict_numbers}
use Rattle.metadata.proofs.Pinned.{refusal_by, refusal_back}
use Rattle.pieces.specs.declared.State.{State}
use Rattle.pieces.specs.declared.State.TheVariants.{More, Settled, Full}
use Rattle.pieces.specs.Pieces.{room, unsettled, more, answer}
use Rattle.pieces.specs.Feed.{state_numbers, fed, store_after, bytes_of}
use Rattle.pieces.specs.Promises.{FeedPromise}
use Rattle.pieces.specs.Meaning.{Feeds, NoFewer}
use Rattle.pieces.specs.Meaning.Wants.{first_byte}
use Rattle.pieces.specs.Meaning.Says.{wanting}
use Rattle.pieces.specs.Meaning.Feeds.{no_more, one_more}
use Rattle.pieces.proofs.Wanting.{wants_is, why, unsettled_by}
use Rattle.pieces.proofs.Laws.{room_within, room_same, fits, after_is, kept_is, fed_answers}
use Rattle.pieces.proofs.Answers.{fewer_unsettled, said, begins, more_says, answer_stays}

-- a settled state is not "more", nor 44
pub refusal_final : (r : Refusal) → (refusal_number r ≡ 3 → ⊥) × (refusal_number r ≡ 44 → ⊥)
unfolding refusal_by
refusal_final r = ((λ e. false_true (rw e at (refusal_back (λ _. true) false r))), λ e. false_true (rw e at (refusal_back (λ _. true) false r)))

pub settled_final : (v : Result Accepted Refusal) → (code_of (verdict_numbers v) ≡ 3 → ⊥) × (code_of (verdict_numbers v) ≡ 44 → ⊥)
settled_final (Ok a) = ((λ z. omega arith), λ z. omega arith)
settled_final (Err r) = refusal_final r

-- WHAT IS SO AFTER ANY PIECES, whoever keeps the answer: it is the one to their bytes, and the store holds these up to those that settled it
pub record Received (n : ℕ) (got : List ℕ) (a : Answer) (store : List ℕ) : Type 0 where
  pub room_is : room store ≡ n
  pub answers : a ≡ answer n got
  pub kept : (k : ℕ) → k ≤ n → k ≤ length got → NoFewer k got → take k store ≡ take k got

pub first_received : (store : List ℕ) → Received (room store) [] (more 0 1) store
first_received store =
    record { room_is = refl; answers = sym (begins (room store)); kept = λ k p q h. let z : k ≡ 0 = omega arith in rw z }

-- at an answer that is not "more" nothing moves
pub rest_received : (n : ℕ) (got piece : List ℕ) {a : Answer} {store : List ℕ} → n ≤ limit → (code_of a ≡ 3 → ⊥)
    → Received n got a store → Received n (got ++ piece) a store
rest_received n got piece {a} {store} l final r =
    record { room_is = r.room_is; answers = r.answers ∙ sym (answer_stays n got piece l not_more); kept = still }
  where
    not_more : code_of (answer n got) ≡ 3 → ⊥
    not_more z = final (ap code_of r.answers ∙ z)

    -- were k past the bytes received, these would not settle it, and there is room for them
    inside : (k : ℕ) → k ≤ n → NoFewer k (got ++ piece) → k ≤ length got
    inside k p h = go (dec_lt (length got) k)
      where
        go : Dec (length got < k) → k ≤ length got
        go (no q) = omega arith
        go (yes q) =
            let front : take (length got) (got ++ piece) ≡ got = take-append_seam got piece in
            let waits : unsettled (verdict got) ≡ true = rw front at (h (length got) q) in
            absurd (not_more (ap code_of (said n got (wanting (omega arith) (why got waits)))))

    still : (k : ℕ) → k ≤ n → k ≤ length (got ++ piece) → NoFewer k (got ++ piece) → take k store ≡ take k (got ++ piece)
    still k p q h =
        let i = inside k p h in
        let front : NoFewer k got = λ m g. rw (take-append-le m got piece (omega arith)) at (h m g) in
        r.kept k p i front ∙ sym (take-append-le k got piece i)

-- at "more" the piece comes after the bytes received
pub more_received : (n : ℕ) (got piece : List ℕ) {h w : ℕ} {store after : List ℕ} → n ≤ limit → Received n got (more h w) store
    → after ≡ store_after store piece (More h) → Received n (got ++ piece) (fed store piece (More h)) after
more_received n got piece {h} {w} {store} {after} l r left = record { room_is = same_room ∙ r.room_is; answers = answered; kept = now_kept }
  where
    held : h ≡ length got
    held = (more_says n got r.answers).0

    fit : length got ≤ n
    fit = (more_says n got r.answers).1

    inside : h ≤ room store
    inside = omega (arith, held, fit, r.room_is)

    got_is : take h store ≡ got
    got_is =
        let waits : unsettled (verdict got) ≡ true = unsettled_by got (more_says n got r.answers).2 in
        rw held (r.kept (length got) fit (omega arith) (λ m q. fewer_unsettled got m (omega (arith, fit)) waits) ∙ take-length got)

    same_room : room after ≡ room store
    same_room = room_same after store (ap length (left ∙ after_is store piece h inside) ∙ length-sets store h (take (room store - h) piece))

    answered : fed store piece (More h) ≡ answer n (got ++ piece)
    answered = fed_answers store piece h inside ∙ rw (got_is, r.room_is)

    now_kept : (k : ℕ) → k ≤ n → k ≤ length (got ++ piece) → NoFewer k (got ++ piece) → take k after ≡ take k (got ++ piece)
    now_kept k p q _ =
        let m = h + fits store piece h inside in
        let all : take m after ≡ take n (got ++ piece) =
        rw (left, after_is store piece h inside) (kept_is store piece h inside ∙ rw (got_is, r.room_is)) in
        sym (take-take k m after (omega (arith, held, length-append got piece, r.room_is)))
        ∙ ap (take k) all
        ∙ take-take k n (got ++ piece) p

-- BY STATES: one piece
next_received : (n : ℕ) (got piece : List ℕ) (s next : State) (store after : List ℕ) → n ≤ limit
    → Received n got (state_numbers store s) store → FeedPromise store piece s next after → Received n (got ++ piece) (state_numbers after next) after
unfolding fed store_after
next_received n got piece (More h) next store after l r f = rw f.answers (more_received n got piece l r f.leaves)
next_received n got piece (Settled v) next store after l r f = rw (f.answers, f.leaves) (rest_received n got piece l (settled_final v).0 r)
next_received n got piece Full next store after l r f = rw (f.answers, f.leaves) (rest_received n got piece l (λ z. omega arith) r)

-- and any pieces
all_received : (n : ℕ) (got : List ℕ) → n ≤ limit → {s last : State} {store end : List ℕ} {pieces : List (List ℕ)}
    → Received n got (state_numbers store s) store → Feeds s store pieces last end → Received n (got ++ bytes_of pieces) (state_numbers end last) end
unfolding bytes_of
all_received n got l r no_more = rw (append-nil got) r
all_received n got l r (one_more {s = s} {next = next} {store = store} {after = after} {piece = piece} {pieces = pieces} f rest) =
    rw append_assoc at (all_received n (got ++ piece) l (next_received n got piece s next store after l r f) rest)

-- the first state, over any store: the first byte is wanted
pub begun : (store : List ℕ) → state_numbers store (More 0) ≡ more 0 1
begun store = ap (more 0) (wants_is [] (first_byte refl)).0

-- THE THEOREMS
module _ (store : List ℕ) {last : State} {end : List ℕ} {pieces : List (List ℕ)} (run : Feeds (More 0) store pieces last end) where
  received : Received (room store) (bytes_of pieces) (state_numbers end last) end
  received = all_received (room store) [] (room_within store) (rw (begun store) (first_received store)) run

  -- the answer is the one to all their bytes at once
  pub any_cutting : state_numbers end last ≡ answer (room store) (bytes_of pieces)
  any_cutting = received.answers

  -- the store holds the first k bytes received, where no fewer settle the verdict
  pub store_holds : (k : ℕ) → k ≤ room store → k ≤ length (bytes_of pieces) → NoFewer k (bytes_of pieces) → take k end ≡ take k (bytes_of pieces)
  store_holds = received.kept
