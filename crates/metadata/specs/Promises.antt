-- What the calls that answer in document 01's numbers promise, each named once: the code's `ensures`, proofs/Pinned.antt and proofs/Says.antt
-- cite it. (`checked` and `span_of` promise `CheckedOf` and `SpanOf` of Steps.antt.) Assumes nothing.
use Rattle.std.specs.Prelude.{◌≡◌, List, ℕ, Result, Option, ⊤}
use Rattle.dictionary.specs.Dictionary.{verdict, name_at, emptied, room_after}
use Rattle.dictionary.specs.declared.Refusal.{Refusal}
use Rattle.metadata.specs.declared.Accepted.{Accepted}
use Rattle.part.specs.declared.Span.{Span}
use Rattle.metadata.specs.declared.NoRoom.{NoRoom}
use Rattle.metadata.specs.Answers.{verdict_numbers, entry_numbers, written_numbers}

abbrev pub CheckPromise : List ℕ → Result Accepted Refusal → Type 0
CheckPromise d r = verdict_numbers r ≡ verdict d

abbrev pub GetPromise : List ℕ → ℕ → Result (Option Span) Refusal → Type 0
GetPromise d i r = entry_numbers r ≡ name_at d i

-- the answer, and the room after it
pub record WriteEmptyPromise (room : List ℕ) (r : Result ⊤ NoRoom) (after : List ℕ) : Type 0 where
  pub answers : written_numbers r ≡ emptied room
  pub leaves : after ≡ room_after room
