-- What the call promises of its answer and of the room after it, whatever scratch held and however long it was: its `ensures` cites this, and
-- so do the theorems. Assumes nothing.
use Rattle.std.specs.Prelude.{◌≡◌, List, ℕ, Result}
use Rattle.write_object.specs.declared.Built.{Built}
use Rattle.write_object.specs.declared.Refusal.{Refusal}
use Rattle.write_object.specs.Writing.{written, room_after}
use Rattle.write_object.specs.Answers.{built_numbers}

pub record ObjectPromise (d bytes words room : List ℕ) (r : Result Built Refusal) (after : List ℕ) : Type 0 where
  pub answer : built_numbers r ≡ written d bytes words room
  pub leaves : after ≡ room_after d bytes words room
