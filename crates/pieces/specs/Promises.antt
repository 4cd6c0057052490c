-- What each call promises, named once: the code's `ensures` and proofs/Pinned.antt cite it. Assumes nothing.
use Rattle.std.specs.Prelude.{◌≡◌, Bool, List, ℕ}
use Rattle.pieces.specs.declared.Fed.{Fed}
use Rattle.pieces.specs.declared.State.{State}
use Rattle.pieces.specs.declared.State.TheVariants.{More}
use Rattle.pieces.specs.Pieces.{judged}
use Rattle.pieces.specs.Feed.{fed_numbers, state_numbers, fed, store_after}

abbrev pub BeginPromise : State → Type 0
BeginPromise r = r ≡ More 0

-- the state after a piece, and the store
pub record FeedPromise (store piece : List ℕ) (state r : State) (after : List ℕ) : Type 0 where
  pub answers : state_numbers after r ≡ fed store piece state
  pub leaves : after ≡ store_after store piece state

-- the same of the bytes held alone, with how many are wanted in the answer
pub record ReceivePromise (store piece : List ℕ) (held : ℕ) (r : Fed) (after : List ℕ) : Type 0 where
  pub answers : fed_numbers r ≡ fed store piece (More held)
  pub leaves : after ≡ store_after store piece (More held)

-- and of the step that judges what is kept
abbrev pub JudgedPromise : (kept : List ℕ) (over : Bool) → Fed → Type 0
JudgedPromise kept over r = fed_numbers r ≡ judged kept over
