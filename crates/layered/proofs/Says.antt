-- What each case of the returned answer says, and what the room is then: a refusal is due and the room is as it was; or so many fields stand at
-- its front, in so many bytes, which read back, and the bytes after them are as they were. Assumes nothing.
use Rattle.rules.proofs.Prelude.{◌≡◌, sym, ◌∙◌, ◌↔◌, List, ℕ, refuse}
use Rattle.std.specs.Prelude.{Result, Ok}
use Rattle.write_object.specs.declared.Built.{Built}
use Rattle.write_object.specs.declared.Refusal.{Refusal as Why}
use Rattle.write_object.specs.Answers.{built_numbers}
use Rattle.write_object.specs.Meaning.{Refusal}
use Rattle.write_object.specs.Promises.{ObjectPromise}
use Rattle.write_object.proofs.Refuses.{refuses, refused_room}
use Rattle.layered.proofs.ReadBack.{Holds, holds}

module _ (d bytes words room after : List ℕ) where
  -- each refusal, exactly when it is due; and then the room is as it was
  pub returned_refusal : (r : Result Built Why) {c p : ℕ} → built_numbers r ≡ refuse c p
      → ObjectPromise d bytes words room r after ↔ (Refusal d bytes words room c p × (after ≡ room))
  returned_refusal r {c} {p} e = (
    λ w. let due = (refuses d bytes words room c p).0 (sym w.answer ∙ e) in (due, w.leaves ∙ refused_room d bytes words room due),
    λ w. record { answer = e ∙ sym ((refuses d bytes words room c p).1 w.0); leaves = w.1 ∙ sym (refused_room d bytes words room w.0) },
  )

  -- what was written
  pub returned_object : (n v b : ℕ) → ObjectPromise d bytes words room (Ok (record { count = n; start = v; length = b })) after → Holds d bytes words room after n v b
  returned_object n v b w = rw w.leaves (holds d bytes words room n v b (sym w.answer))
