-- What the functions of the crate answer each other, in the words of Brackets.antt. Assumes nothing.
use Rattle.std.specs.Prelude.{◌≡◌, false, List, [], ◌∷◌, ℕ, zero, suc, ◌+◌, ◌≤◌, ◌<◌, length, drop, Result, Ok, Err}
use Rattle.brackets.specs.Brackets.{closes, content, last_or, unsigned}
use Rattle.brackets.specs.declared.Piece.{Piece}
use Rattle.brackets.specs.declared.Piece.TheVariants as piece
use Rattle.brackets.specs.declared.Look.{Look}
use Rattle.brackets.specs.declared.Unclosed.{Unclosed}

-- a bracket that closes k bytes later closes that much later from here; none stays none
unfoldable pub later : ℕ → ℕ → ℕ
later k zero = 0
later k (suc n) = k + suc n

-- one byte of what brackets hold, taken with its backslash
pub record ByteOf (s : List ℕ) (at byte size : ℕ) : Type 0 where
  pub content_is : content false (drop at s) ≡ byte ∷ content false (drop (at + size) s)
  pub closes_is : closes false (drop at s) ≡ later size (closes false (drop (at + size) s))
  pub some : 1 ≤ size
  pub inside : at + size ≤ length s

abbrev pub PieceOf : List ℕ → ℕ → Piece → Type 0
PieceOf s at piece.Never = (content false (drop at s) ≡ []) × (closes false (drop at s) ≡ 0)
PieceOf s at piece.Close = (content false (drop at s) ≡ []) × (closes false (drop at s) ≡ 1) × (at < length s)
PieceOf s at (piece.Byte byte size) = ByteOf s at byte size

-- a pass over the brackets that close
pub record Seen (s : List ℕ) (from : ℕ) (l : Look) : Type 0 where
  pub size_is : l.size ≡ closes false (drop from s)
  pub count_is : l.count ≡ length (content false (drop from s))
  pub last_is : l.last ≡ last_or 0 (content false (drop from s))
  pub inside : from + l.size ≤ length s
  pub shut : l.count < l.size

-- and over any
abbrev pub LookOf : List ℕ → ℕ → Result Look Unclosed → Type 0
LookOf s from (Err u) =
    (closes false (drop from s) ≡ 0) × (u.count ≡ length (content false (drop from s))) × (u.last ≡ last_or 0 (content false (drop from s)))
LookOf s from (Ok l) = Seen s from l

-- what stands from r on, after a plus or none
pub record AfterPlus (s : List ℕ) (from r : ℕ) : Type 0 where
  pub is : content false (drop r s) ≡ unsigned (content false (drop from s))
  pub inside : r ≤ length s
