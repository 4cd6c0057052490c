-- What a host learns from writing a dictionary: the strip's words, exactly when, the room, and what is read of it again. Of 45 the place is a
-- name's number, which a strip carries whole where there are no more than 4,294,967,296 names. Assumes nothing.
use Rattle.rules.proofs.Prelude.{◌≡◌, refl, ap, ◌∙◌, ◌↔◌, List, [], ◌∷◌, ℕ, ◌≤◌, ◌<◌, dec_lt, arith, lt-ltb, le-ltb, length, take, get_or}
use Rattle.fill.specs.Steps.{list_of}
use Rattle.write.specs.Writing.{written as written_of, room_after}
use Rattle.write.proofs.Refuses as writes
use Rattle.write.proofs.Says.{refused_room, written_room, holds}
use Rattle.strip.specs.Shapes.{words_of, dictionary_shape, strip_bytes}
use Rattle.lichenhusk.proofs.Carries.{write_small as code_small, write_fits}
use Rattle.lichenhusk.specs.Strip.{verdict_words, write_words, filled_after}
use Rattle.lichenhusk.specs.Promises.{WritePromise}
use Rattle.host.specs.Host.{word, words_in, Tells, WriteSays, FillsRoom}
use Rattle.host.specs.Host.WriteSays.{written, refused}
use Rattle.host.proofs.Carries.{Fits, Said, tells}
use Rattle.host.proofs.Exactly.{exactly}

module _ (run ends room : List ℕ) (few : length ends ≤ 4294967296) where
  write_said : Said (WriteSays run ends room) (write_words run ends room)
  write_said =
      writes.by_answer run ends room (λ x. Fits (words_of dictionary_shape x) → Said (WriteSays run ends room) (words_of dictionary_shape x))
      (λ n b a f. (f, (λ z. omega arith), written a))
      (λ c p r f. (f, (code_small few r).2, refused r))
      (write_fits run ends room few)

  write_only : (six : List ℕ) → WriteSays run ends room six → write_words run ends room ≡ six
  write_only _ (written a) = ap (words_of dictionary_shape) ((writes.accepts run ends room _ _).1 a)
  write_only _ (refused r) = ap (words_of dictionary_shape) ((writes.refuses run ends room _ _).1 r)

  module _ (strip : List ℕ) (code : ℕ) (after room' : List ℕ) (promised : WritePromise run ends room strip code after room') where
    -- THE STRIP
    pub write_tells : Tells (WriteSays run ends room) strip code after
    write_tells = tells _ dictionary_shape (written_of run ends room) strip code after promised.strip_left write_said

    pub write_exactly : strip_bytes ≤ length strip → (six : List ℕ) → (words_in after ≡ six) ↔ WriteSays run ends room six
    write_exactly enough = exactly strip enough _ dictionary_shape (written_of run ends room) write_said write_only promised.strip_left

    -- THE ROOM
    by_case : {six : List ℕ} → WriteSays run ends room six → words_in after ≡ six → room' ≡ room_after run ends room → FillsRoom run ends room (get_or six 0 0) after room'
    by_case (written {b = b} a) read left =
        let end : word after 4 ≡ b = cc in
        record { filled = λ _. left ∙ written_room run ends room a ∙ rw (end, a.ends_at); kept = λ m. absurd (m refl) }
    by_case (refused r) read left =
        record { filled = λ z. absurd (omega (arith, z, code_small few r)); kept = λ _. left ∙ refused_room run ends room r }

    pub write_fills : FillsRoom run ends room code after room'
    unfolding filled_after
    write_fills = go (dec_lt (length strip) strip_bytes)
      where
        go : Dec (length strip < strip_bytes) → FillsRoom run ends room code after room'
        go (yes h) =
            let left : room' ≡ room = promised.words_left ∙ rw (lt-ltb (length strip) strip_bytes h) in
            let forty = write_tells.no_strip.1 h in
            record { filled = λ z. absurd (omega arith); kept = λ _. left }
        go (no h) =
            let left : room' ≡ room_after run ends room = promised.words_left ∙ rw (le-ltb (length strip) strip_bytes (omega arith)) in
            let s = write_tells.says (λ f. h (write_tells.no_strip.0 f)) in
            rw s.0 at (by_case s.1 refl left)

    -- READ AGAIN: with 0, the dictionary's check of the bytes that were written gives the same six words
    pub read_again : code ≡ 0 → verdict_words (take (word after 4) room') ≡ words_in after
    unfolding filled_after
    read_again z = go (dec_lt (length strip) strip_bytes)
      where
        back : {six : List ℕ} → WriteSays run ends room six → words_in after ≡ six → get_or six 0 0 ≡ 0 → room' ≡ room_after run ends room
            → verdict_words (take (word after 4) room') ≡ six
        back (written {n = n} {b = b} a) read e left =
            let end : word after 4 ≡ b = cc in
            let held = holds run ends room a in
            rw (end, left, held.front.accepted, a.counts) (ap (λ (m : ℕ). 0 ∷ length (list_of run ends) ∷ 0 ∷ 0 ∷ m ∷ 0 ∷ []) held.size)
        back (refused r) read e left = absurd (omega (arith, e, code_small few r))

        go : Dec (length strip < strip_bytes) → verdict_words (take (word after 4) room') ≡ words_in after
        go (yes h) = let forty = write_tells.no_strip.1 h in absurd (omega arith)
        go (no h) =
            let left : room' ≡ room_after run ends room = promised.words_left ∙ rw (le-ltb (length strip) strip_bytes (omega arith)) in
            let s = write_tells.says (λ f. h (write_tells.no_strip.0 f)) in
            back s.1 refl (s.0 ∙ z) left
