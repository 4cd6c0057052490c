-- What is written of the parts is written of the lines, and within the room. Assumes nothing.
use Rattle.rules.proofs.Prelude.{◌≡◌, List, ℕ, ◌-◌, ◌≤◌, arith, length, take, length-take}
use Rattle.lay.specs.Bytes.{joined}
use Rattle.write.specs.Writing.{room_after}
use Rattle.write.specs.Meaning.{Refusal}
use Rattle.write.specs.Meaning.Refusal.{bad_name, too_long, no_room}
use Rattle.write.proofs.Refuses.{by_answer}
use Rattle.strip.specs.Shapes.{words_of, dictionary_shape}
use Rattle.lichenhusk.specs.Strip.{write_words}
use Rattle.split.specs.declared.Names.{Names}
use Rattle.split.specs.Lines.{lines_of, ends_of}
use Rattle.split.specs.Promises.{GatherPromise}
use Rattle.split.proofs.Laws.{run_part, ends_part}
use Rattle.answers.specs.declared.Answer.{Answer}
use Rattle.answers.specs.Numbers.{numbers_of}

-- OF THE PARTS that hold the lines and their ends

abbrev Says : Answer → List ℕ → List ℕ → List ℕ → List ℕ → Type 0
Says a run ends room room' = (numbers_of a ≡ write_words run ends room) × (room' ≡ room_after run ends room)

pub of_lines : {text run ends run' ends' room' : List ℕ} {r : Names} (a : Answer) (room : List ℕ) → GatherPromise text run ends r run' ends' → r.count ≤ 4294967296
    → (length (take (r.count - 0) ends') ≤ 4294967296 → numbers_of a ≡ write_words (take (r.len - 0) run') (take (r.count - 0) ends') room)
    → room' ≡ room_after (take (r.len - 0) run') (take (r.count - 0) ends') room → Says a (joined (lines_of text)) (ends_of 0 (lines_of text)) room room'
of_lines {ends' = ends'} {r = r} a room g few n l =
    let x : r.len - 0 ≡ r.len = omega arith in
    let y : r.count - 0 ≡ r.count = omega arith in
    let short : length (take (r.count - 0) ends') ≤ 4294967296 = simp length-take (omega arith) in
    (rw (x, y, run_part g, ends_part g) at (n short), rw (x, y, run_part g, ends_part g) at l)

-- WITHIN THE ROOM

module _ (run ends room : List ℕ) where
  refused_code : {c p : ℕ} → Refusal run ends room c p → c ≡ 0 → ⊥
  refused_code (bad_name b) e = omega arith
  refused_code (too_long g h) e = omega arith
  refused_code (no_room g h k) e = omega arith

  pub within : (a : Answer) → numbers_of a ≡ write_words run ends room → a.code ≡ 0 → a.end ≤ length room
  within a =
      by_answer run ends room (λ x. numbers_of a ≡ words_of dictionary_shape x → a.code ≡ 0 → a.end ≤ length room)
      (λ n b w e z. let f : a.end ≡ b = cc in omega (arith, f, w.ends_at, w.fits))
      (λ c p r e z. let f : a.code ≡ c = cc in absurd (refused_code r (omega (arith, f, z))))
