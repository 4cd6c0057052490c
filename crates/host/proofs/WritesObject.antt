-- What a host learns from writing an object: the strip's words, exactly when, the room, and what is read of it again. A place is a pair's
-- number, which a strip carries whole where there are no more than 4,294,967,296 words of pairs. Assumes nothing.
use Rattle.rules.proofs.Prelude.{◌≡◌, refl, ap, ◌∙◌, ◌↔◌, List, ℕ, ◌≤◌, ◌<◌, dec_lt, arith, lt-ltb, le-ltb, length, take, get_or}
use Rattle.write_object.specs.Writing.{written as written_of, room_after}
use Rattle.write_object.proofs.Refuses as writes
use Rattle.layered.proofs.ReadBack.{holds}
use Rattle.strip.specs.Shapes.{words_of, layer_shape, strip_bytes}
use Rattle.lichenhusk.proofs.Carries.{write_object_small as code_small, write_object_fits}
use Rattle.lichenhusk.specs.Strip.{layer_words, write_object_words, filled_after}
use Rattle.lichenhusk.specs.Promises.{WriteObjectPromise}
use Rattle.host.specs.Host.{word, words_in, Tells, WriteObjectSays, FillsObject}
use Rattle.host.specs.Host.WriteObjectSays.{written, refused}
use Rattle.host.proofs.Carries.{Fits, Said, tells}
use Rattle.host.proofs.Exactly.{exactly}

module _ (d bytes pairs room : List ℕ) (few : length pairs ≤ 4294967296) where
  write_said : Said (WriteObjectSays d bytes pairs room) (write_object_words d bytes pairs room)
  write_said =
      writes.by_answer d bytes pairs room (λ x. Fits (words_of layer_shape x) → Said (WriteObjectSays d bytes pairs room) (words_of layer_shape x))
      (λ n v b a f. (f, (λ z. omega arith), written a))
      (λ c p r f. (f, (code_small few r).2, refused r))
      (write_object_fits d bytes pairs room few)

  write_only : (six : List ℕ) → WriteObjectSays d bytes pairs room six → write_object_words d bytes pairs room ≡ six
  write_only _ (written a) = ap (words_of layer_shape) ((writes.accepts d bytes pairs room _ _ _).1 a)
  write_only _ (refused r) = ap (words_of layer_shape) ((writes.refuses d bytes pairs room _ _).1 r)

  module _ (strip : List ℕ) (code : ℕ) (after room' : List ℕ) (promised : WriteObjectPromise d bytes pairs room strip code after room') where
    -- THE STRIP
    pub write_object_tells : Tells (WriteObjectSays d bytes pairs room) strip code after
    write_object_tells = tells _ layer_shape (written_of d bytes pairs room) strip code after promised.strip_left write_said

    pub write_object_exactly : strip_bytes ≤ length strip → (six : List ℕ) → (words_in after ≡ six) ↔ WriteObjectSays d bytes pairs room six
    write_object_exactly enough = exactly strip enough _ layer_shape (written_of d bytes pairs room) write_said write_only promised.strip_left

    -- THE ROOM
    by_case : {six : List ℕ} → WriteObjectSays d bytes pairs room six → words_in after ≡ six → room' ≡ room_after d bytes pairs room
        → FillsObject d bytes pairs room (get_or six 0 0) after room'
    by_case (written {b = b} a) read left =
        let end : word after 4 ≡ b = cc in
        record { filled = λ _. left ∙ writes.written_room d bytes pairs room a ∙ rw (end, a.ends); kept = λ m. absurd (m refl) }
    by_case (refused r) read left =
        record { filled = λ z. absurd (omega (arith, z, code_small few r)); kept = λ _. left ∙ writes.refused_room d bytes pairs room r }

    pub write_object_fills : FillsObject d bytes pairs room code after room'
    unfolding filled_after
    write_object_fills = go (dec_lt (length strip) strip_bytes)
      where
        go : Dec (length strip < strip_bytes) → FillsObject d bytes pairs room code after room'
        go (yes h) =
            let left : room' ≡ room = promised.words_left ∙ rw (lt-ltb (length strip) strip_bytes h) in
            let forty = write_object_tells.no_strip.1 h in
            record { filled = λ z. absurd (omega arith); kept = λ _. left }
        go (no h) =
            let left : room' ≡ room_after d bytes pairs room = promised.words_left ∙ rw (le-ltb (length strip) strip_bytes (omega arith)) in
            let s = write_object_tells.says (λ f. h (write_object_tells.no_strip.0 f)) in
            rw s.0 at (by_case s.1 refl left)

    -- READ AGAIN: with 0, the layer's check of the bytes that were written gives the same six words
    pub object_read_again : code ≡ 0 → layer_words d (take (word after 4) room') ≡ words_in after
    unfolding filled_after
    object_read_again z = go (dec_lt (length strip) strip_bytes)
      where
        back : {six : List ℕ} → WriteObjectSays d bytes pairs room six → words_in after ≡ six → get_or six 0 0 ≡ 0 → room' ≡ room_after d bytes pairs room
            → layer_words d (take (word after 4) room') ≡ six
        back (written {n = n} {v = v} {b = b} a) read e left =
            let end : word after 4 ≡ b = cc in
            let held = holds d bytes pairs room n v b ((writes.accepts d bytes pairs room n v b).1 a) in
            rw (end, left, held.front.accepted, a.counts, a.starts, a.ends) refl
        back (refused r) read e left = absurd (omega (arith, e, code_small few r))

        go : Dec (length strip < strip_bytes) → layer_words d (take (word after 4) room') ≡ words_in after
        go (yes h) = let forty = write_object_tells.no_strip.1 h in absurd (omega arith)
        go (no h) =
            let left : room' ≡ room_after d bytes pairs room = promised.words_left ∙ rw (le-ltb (length strip) strip_bytes (omega arith)) in
            let s = write_object_tells.says (λ f. h (write_object_tells.no_strip.0 f)) in
            back s.1 refl (s.0 ∙ z) left
