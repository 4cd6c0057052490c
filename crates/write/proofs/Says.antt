-- What each case of the returned answer says, and what the room is then: a refusal is due and the room is as it was; or so many names stand at
-- its front, in so many bytes, which read back as exactly the set, and the bytes after them are as they were. Assumes nothing.
use Rattle.std.specs.Prelude.{Result, Ok}
use Rattle.rules.proofs.Prelude.{◌≡◌, refl, sym, ◌∙◌, ◌↔◌, List, [], ◌∷◌, ◌++◌, ℕ, suc, ◌≤◌, arith, length, take, drop, take_at, length-append, length-drop, accept, refuse, code_of}
use lib.Seq.{drop_at}
use Rattle.dictionary.specs.Limits.{limit}
use Rattle.dictionary.specs.Dictionary.{verdict}
use Rattle.metadata.proofs.Appended.{appended}
use Rattle.fill.specs.Bytes.{dictionary, size}
use Rattle.fill.specs.Steps.{list_of}
use Rattle.write.specs.declared.Written.{Written}
use Rattle.write.specs.declared.Refusal.{Refusal as Refused}
use Rattle.write.specs.Writing.{room_after}
use Rattle.write.specs.Meaning.{Refusal, Accepted}
use Rattle.write.specs.Answers.{written_numbers}
use Rattle.write.specs.Promises.{DictionaryPromise}
use Rattle.write.proofs.Refuses.{refuses, accepts, is_due, all_pass}
use Rattle.write.proofs.ReadBack.{ReadBack, reads_back}

-- the room of a dictionary that was written
pub record Holds (run ends room after : List ℕ) (bytes : ℕ) : Type 0 where
  pub is : take bytes after ≡ dictionary (list_of run ends)
  pub size : length (take bytes after) ≡ bytes
  pub front : ReadBack run ends (take bytes after)
  pub rest : drop bytes after ≡ drop bytes room
  pub whole : length room ≤ limit → verdict after ≡ accept (length (list_of run ends) ∷ bytes ∷ [])

module _ (run ends room : List ℕ) where
  -- A REFUSAL LEAVES THE ROOM
  pub refused_room : {c p : ℕ} → Refusal run ends room c p → room_after run ends room ≡ room
  unfolding room_after
  refused_room r = rw (is_due run ends room r)

  pub written_room : {n b : ℕ} → Accepted run ends room n b → room_after run ends room ≡ dictionary (list_of run ends) ++ drop (size (list_of run ends)) room
  unfolding room_after
  written_room a = rw (all_pass run ends room a)

  -- what was written, at the front; what was there, after it
  pub holds : {n b : ℕ} → Accepted run ends room n b → Holds run ends room (room_after run ends room) b
  unfolding size
  holds {n} {b} a =
      let d = dictionary (list_of run ends) in
      let rest = drop (length d) room in
      let is : room_after run ends room ≡ d ++ rest = written_room a in
      let at : length d ≡ b = sym a.ends_at in
      let front : take b (room_after run ends room) ≡ d = rw is (take_at d rest b at) in
      let back = reads_back run ends a.names a.within in
      let accepted : verdict d ≡ accept (length (list_of run ends) ∷ b ∷ []) = back.accepted ∙ rw at in
      record {
        is = front;
        size = rw front at;
        front = rw front back;
        rest = rw (is, ← at) (drop_at d rest (length d) refl);
        whole = λ short. rw is (appended d rest (long_room a short) (code accepted) (code accepted) ∙ accepted);
      }
    where
      -- the room is as long as it was
      long_room : Accepted run ends room n b → length room ≤ limit → length (dictionary (list_of run ends) ++ drop (length (dictionary (list_of run ends))) room) ≤ limit
      long_room a short = simp (length-append, length-drop) (omega (arith, a.fits, short))

      -- an accepted one is neither empty nor short
      code : {c : ℕ} → verdict (dictionary (list_of run ends)) ≡ accept (length (list_of run ends) ∷ b ∷ []) → code_of (verdict (dictionary (list_of run ends))) ≡ suc c → ⊥
      code e f = let z : ◌≡◌ {A = ℕ} 0 1 = cc in omega arith

  -- OF WHAT THE CODE RETURNED
  module _ (after : List ℕ) where
    -- 45, 10 and 46, exactly when they are due; and then the room is as it was
    pub returned_refusal : (r : Result Written Refused) {c p : ℕ} → written_numbers r ≡ refuse c p
        → DictionaryPromise run ends room r after ↔ (Refusal run ends room c p × (after ≡ room))
    returned_refusal r {c} {p} e = (
      λ w. let due = (refuses run ends room c p).0 (sym w.answer ∙ e) in (due, w.leaves ∙ refused_room due),
      λ w. record { answer = e ∙ sym ((refuses run ends room c p).1 w.0); leaves = w.1 ∙ sym (refused_room w.0) },
    )

    -- what was written
    pub returned_written : (n b : ℕ) → DictionaryPromise run ends room (Ok (record { count = n; length = b })) after → Accepted run ends room n b × Holds run ends room after b
    returned_written n b w = let a = (accepts run ends room n b).0 (sym w.answer) in (a, rw w.leaves (holds a))
