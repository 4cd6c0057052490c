-- Laws of the answer to the bytes received, and of one piece: where it settles, what it copies, what is then judged. Assumes nothing.
use Prim.Native.Nat.{min}
use lib.Seq.{take-append_seam, take-append-add, length-take-le}
use Rattle.rules.proofs.Prelude.{◌≡◌, sym, ap, ◌∙◌, Bool, true, false, List, ◌++◌, ℕ, ◌+◌, ◌-◌, ◌≤◌, ◌<◌, dec_lt, arith, lt-ltb, le-ltb, ltb, length, take, drop}
use Rattle.rules.proofs.Prelude.{length-append, length-take, take_all, sets, sets-eq}
use Rattle.dictionary.specs.Limits.{limit}
use Rattle.dictionary.specs.Dictionary.{verdict}
use Rattle.dictionary.specs.Wanted.{wanted}
use Rattle.pieces.specs.declared.Fed.{Fed}
use Rattle.pieces.specs.declared.State.TheVariants.{More}
use Rattle.pieces.specs.Pieces.{room, unsettled, more, full, judged, answer}
use Rattle.pieces.specs.Feed.{fed, store_after}
use Rattle.pieces.specs.Promises.{ReceivePromise, JudgedPromise}

-- THE ROOM
module _ (store : List ℕ) where
  pub room_within : room store ≤ limit
  unfolding room
  room_within = omega arith

  pub room_inside : room store ≤ length store
  unfolding room
  room_inside = omega arith

pub room_same : (a b : List ℕ) → length a ≡ length b → room a ≡ room b
unfolding room
room_same a b e = rw e

-- WHAT IS KEPT is judged
module _ (kept : List ℕ) where
  pub judged_settled : (over : Bool) → unsettled (verdict kept) ≡ false → judged kept over ≡ verdict kept
  unfolding judged
  judged_settled over e = rw e

  pub judged_full : unsettled (verdict kept) ≡ true → judged kept true ≡ full
  unfolding judged
  judged_full e = rw e

  pub judged_more : unsettled (verdict kept) ≡ true → judged kept false ≡ more (length kept) (wanted kept)
  unfolding judged
  judged_more e = rw e

-- ONE PIECE, after the bytes held

-- a state that counts past the room
module _ (store piece : List ℕ) (held : ℕ) (past : room store < held) where
  pub past_room : fed store piece (More held) ≡ full
  unfolding fed
  past_room = rw (lt-ltb _ _ past)

  pub past_stays : store_after store piece (More held) ≡ store
  unfolding store_after
  past_stays = rw (lt-ltb _ _ past)

-- as many bytes of a list as there are, and no more than k
take_least : (k : ℕ) (l : List ℕ) → take (min k (length l)) l ≡ take k l
take_least k l = go (dec_lt k (length l))
  where
    go : Dec (k < length l) → take (min k (length l)) l ≡ take k l
    go (yes p) = let e : min k (length l) ≡ k = omega arith in rw e
    go (no p) = take_all (min k (length l)) l (omega arith) ∙ sym (take_all k l (omega arith))

module _ (store piece : List ℕ) (held : ℕ) (inside : held ≤ room store) where
  -- how many bytes are copied, and which
  abbrev pub fits : ℕ
  fits = min (room store - held) (length piece)

  abbrev copied : List ℕ
  copied = take (room store - held) piece

  copied_length : length copied ≡ fits
  copied_length = length-take (room store - held) piece

  pub after_is : store_after store piece (More held) ≡ sets store held copied
  unfolding store_after
  after_is = rw (le-ltb _ _ inside)

  pub fed_answers : fed store piece (More held) ≡ answer (room store) (take held store ++ piece)
  unfolding fed
  fed_answers = rw (le-ltb _ _ inside)

  held_length : length (take held store) ≡ held
  held_length = length-take-le held store (omega (arith, room_inside store))

  pub got_length : length (take held store ++ piece) ≡ held + length piece
  got_length = length-append (take held store) piece ∙ rw held_length

  -- the store then starts with the bytes that are judged
  pub kept_is : take (held + fits) (sets store held copied) ≡ take (room store) (take held store ++ piece)
  kept_is =
      let n : held + fits ≡ length (take held store ++ copied) = sym (length-append (take held store) copied ∙ rw (held_length, copied_length)) in
      let r : room store ≡ length (take held store) + (room store - held) = omega (arith, held_length) in
      ap (take (held + fits)) (sets-eq copied store held (omega (arith, copied_length, room_inside store)))
      ∙ ap (λ k. take k ((take held store ++ copied) ++ drop (held + length copied) store)) n
      ∙ take-append_seam (take held store ++ copied) (drop (held + length copied) store)
      ∙ sym (ap (λ k. take k (take held store ++ piece)) r ∙ take-append-add (take held store) piece (room store - held))

  over_is : ltb (room store) (length (take held store ++ piece)) ≡ ltb fits (length piece)
  over_is = go (dec_lt fits (length piece))
    where
      go : Dec (fits < length piece) → ltb (room store) (length (take held store ++ piece)) ≡ ltb fits (length piece)
      go (yes p) = lt-ltb (room store) (length (take held store ++ piece)) (omega (arith, got_length)) ∙ sym (lt-ltb _ _ p)
      go (no p) =
          le-ltb (room store) (length (take held store ++ piece)) (omega (arith, got_length)) ∙ sym (le-ltb fits (length piece) (omega arith))

  pub fed_is : fed store piece (More held) ≡ judged (take (held + fits) (sets store held copied)) (ltb fits (length piece))
  unfolding answer
  fed_is = fed_answers ∙ rw (kept_is, over_is)

  -- so what answers for what is kept meets the promise
  pub taken : (n : ℕ) (after : List ℕ) (r : Fed) → n ≡ fits → after ≡ sets store held (take n piece)
      → JudgedPromise (take (held + n) after) (ltb n (length piece)) r → ReceivePromise store piece held r after
  taken n after r e f j =
      let left : after ≡ sets store held copied = f ∙ rw (e, take_least) in
      record { answers = j ∙ rw (left, e) (sym fed_is); leaves = left ∙ sym after_is }
