-- An object of the lines of a text: it is that of their pairs, and stands at the front of the room. Assumes nothing.
use Rattle.std.specs.Prelude.{◌≡◌, List, ◌++◌, ℕ, length, drop}
use Rattle.split.specs.Lines.{lines_of}
use Rattle.builder.specs.Bytes.{object, size}
use Rattle.pairing.specs.Meaning.{Paired}

pub record Assembled (d text room : List ℕ) (r : ℕ) (after : List ℕ) : Type 0 where
  pub bytes : List ℕ
  pub words : List ℕ
  pub paired : Paired d (lines_of text) bytes words (length (lines_of text))
  pub length_is : r ≡ size d bytes words
  pub room_is : after ≡ object d bytes words ++ drop (size d bytes words) room
