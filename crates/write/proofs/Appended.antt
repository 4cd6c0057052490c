-- Bytes after the last end are ignored: where the names are good, more bytes after the run change neither the answer nor the room. Assumes
-- nothing.
use Rattle.rules.proofs.Prelude.{◌≡◌, sym, ◌∙◌, List, ◌++◌, ℕ, ◌<◌, length}
use Rattle.run.specs.Run.{name}
use Rattle.run.proofs.Appended.{name_appended}
use Rattle.given.specs.Meaning.{GoodNames}
use Rattle.given.proofs.Means.{good_ends}
use Rattle.given.proofs.Appended.{good_appended}
use Rattle.write.specs.Writing.{written, room_after}
use Rattle.write.specs.Meaning.{Named}
use Rattle.write.proofs.Canonical.{same_answer, same_room}

module _ (run more ends : List ℕ) (g : GoodNames run ends) where
  name_same : (k : ℕ) → k < length ends → name (run ++ more) ends k ≡ name run ends k
  name_same = name_appended run more ends (good_ends run ends g)

  to : (x : List ℕ) → Named (run ++ more) ends x → Named run ends x
  to x n = record { number = n.number; is_name = n.is_name; is = sym (name_same n.number n.is_name) ∙ n.is }

  from : (x : List ℕ) → Named run ends x → Named (run ++ more) ends x
  from x n = record { number = n.number; is_name = n.is_name; is = name_same n.number n.is_name ∙ n.is }

  pub run_appended : (room : List ℕ) → (written (run ++ more) ends room ≡ written run ends room) × (room_after (run ++ more) ends room ≡ room_after run ends room)
  run_appended room =
      let g' = good_appended run more ends g in
      (same_answer (run ++ more) ends run ends to from g' g room, same_room (run ++ more) ends run ends to from g' g room)
