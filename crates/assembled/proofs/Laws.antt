-- What was written of the pairs of lines is the lines' object, and within the room. Assumes nothing.
use Rattle.rules.proofs.Prelude.{◌≡◌, ◌∙◌, List, ◌++◌, ℕ, ◌-◌, ◌≤◌, arith, length, take, drop, length-take}
use Rattle.metadata.proofs.Fits.{checks_code}
use Rattle.metadata.proofs.Refuses as dictionary-refuses
use Rattle.write_object.specs.Writing.{room_after}
use Rattle.write_object.specs.Meaning.{Refusal}
use Rattle.write_object.specs.Meaning.Refusal.{of_dictionary, no_entry, double, bad_range, empty_child, too_long, no_room}
use Rattle.write_object.proofs.Refuses.{by_answer, written_room}
use Rattle.strip.specs.Shapes.{words_of, layer_shape}
use Rattle.lichenhusk.specs.Strip.{write_object_words}
use Rattle.builder.specs.Bytes.{object, size}
use Rattle.pairing.specs.declared.Pairs.{Pairs}
use Rattle.pairing.specs.Promises.{GatherPromise}
use Rattle.answers.specs.declared.Answer.{Answer}
use Rattle.answers.specs.Numbers.{numbers_of}
use Rattle.assembled.specs.Assembled.{Assembled}

module _ (d bytes words room : List ℕ) where
  refused_code : {c p : ℕ} → Refusal d bytes words room c p → c ≡ 0 → ⊥
  refused_code (of_dictionary r) e = omega (arith, checks_code d (dictionary-refuses.is_due d r), e)
  refused_code (no_entry o n) e = omega arith
  refused_code (double k n) e = omega arith
  refused_code (bad_range s n) e = omega arith
  refused_code (empty_child r n) e = omega arith
  refused_code (too_long g h) e = omega arith
  refused_code (no_room g h k) e = omega arith

  abbrev Front : Answer → List ℕ → Type 0
  Front a after = (a.end ≡ size d bytes words) × (a.end ≤ length room) × (after ≡ object d bytes words ++ drop (size d bytes words) room)

  -- with 0 it was accepted, its end is its length, and it stands at the front
  front : (a : Answer) {after : List ℕ} → numbers_of a ≡ write_object_words d bytes words room → a.code ≡ 0 → after ≡ room_after d bytes words room → Front a after
  front a {after} =
      by_answer d bytes words room (λ x. numbers_of a ≡ words_of layer_shape x → a.code ≡ 0 → after ≡ room_after d bytes words room → Front a after)
      (λ n v b w e z l. let f : a.end ≡ b = cc in (omega (arith, f, w.ends), omega (arith, f, w.ends, w.fits), l ∙ written_room d bytes words room w))
      (λ c p r e z l. let f : a.code ≡ c = cc in absurd (refused_code r (omega (arith, f, z))))

-- OF THE PARTS that hold the pairs
pub of_lines : {d text after : List ℕ} (bytes words room : List ℕ) (r : Pairs) (a : Answer) → GatherPromise text d r bytes words → r.count ≤ 4294967296
    → (length (take (r.count - 0) words) ≤ 4294967296 → numbers_of a ≡ write_object_words d (take (r.len - 0) bytes) (take (r.count - 0) words) room)
    → after ≡ room_after d (take (r.len - 0) bytes) (take (r.count - 0) words) room → a.code ≡ 0
    → Assembled d text room a.end after × (a.end ≤ length room)
of_lines {d} bytes words room r a g few n l z =
    let x : r.len - 0 ≡ r.len = omega arith in
    let y : r.count - 0 ≡ r.count = omega arith in
    let short : length (take (r.count - 0) words) ≤ 4294967296 = simp length-take (omega arith) in
    let f = front d (take r.len bytes) (take r.count words) room a (rw (x, y) at (n short)) z (rw (x, y) at l) in
    (record { bytes = take r.len bytes; words = take r.count words; paired = g; length_is = f.0; room_is = f.2 }, f.1)
