-- What the call promises of its answer and of the room after it, whatever scratch held and however long it was: its `ensures` cites this, and
-- so do the theorems. Assumes nothing.
use Rattle.std.specs.Prelude.{◌≡◌, List, ℕ, Result}
use Rattle.write.specs.declared.Written.{Written}
use Rattle.write.specs.declared.Refusal.{Refusal}
use Rattle.write.specs.Writing.{written, room_after}
use Rattle.write.specs.Answers.{written_numbers}

pub record DictionaryPromise (run ends room : List ℕ) (r : Result Written Refusal) (after : List ℕ) : Type 0 where
  pub answer : written_numbers r ≡ written run ends room
  pub leaves : after ≡ room_after run ends room
