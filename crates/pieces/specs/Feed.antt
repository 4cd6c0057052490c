-- What one piece does to the state and the store, and what a list of pieces does, fed one after another (document 02, l). Assumes nothing.
use Rattle.std.specs.Prelude.{cond, List, [], ◌∷◌, ◌++◌, ℕ, ◌-◌, ltb, take}
use Rattle.std.proofs.lemmas.List.Edits.{sets}
use Rattle.rules.specs.Rules.{Answer}
use Rattle.dictionary.specs.Wanted.{wanted}
use Rattle.metadata.specs.Answers.{verdict_numbers}
use Rattle.pieces.specs.declared.Fed.{Fed}
use Rattle.pieces.specs.declared.Fed.TheVariants as piece
use Rattle.pieces.specs.declared.State.{State}
use Rattle.pieces.specs.declared.State.TheVariants.{More, Settled, Full}
use Rattle.pieces.specs.Pieces.{room, more, full, answer}

-- number and values of each answer to a piece
abbrev pub fed_numbers : Fed → Answer
fed_numbers (piece.More held wants) = more held wants
fed_numbers (piece.Settled v) = verdict_numbers v
fed_numbers piece.Full = full

-- what is remembered of it
abbrev pub state_of : Fed → State
state_of (piece.More held wants) = More held
state_of (piece.Settled v) = Settled v
state_of piece.Full = Full

-- number and values of each state over its store, whose bytes say how many are wanted
abbrev pub state_numbers : (store : List ℕ) → State → Answer
state_numbers store (More held) = more held (wanted (take held store))
state_numbers store (Settled v) = verdict_numbers v
state_numbers store Full = full

-- ONE PIECE comes after the bytes held; a state that counts past the room is 44; a settled answer, and 44, stay
unfoldable pub fed : (store piece : List ℕ) → State → Answer
fed store piece (More held) = cond (ltb (room store) held) full (answer (room store) (take held store ++ piece))
fed store piece (Settled v) = verdict_numbers v
fed store piece Full = full

-- as much of it as there is room for stands after the bytes held, and all other bytes stay
unfoldable pub store_after : (store piece : List ℕ) → State → List ℕ
store_after store piece (More held) = cond (ltb (room store) held) store (sets store held (take (room store - held) piece))
store_after store piece (Settled v) = store
store_after store piece Full = store

-- the bytes of a list of pieces
unfoldable pub bytes_of : List (List ℕ) → List ℕ
bytes_of [] = []
bytes_of (piece ∷ pieces) = piece ++ bytes_of pieces
