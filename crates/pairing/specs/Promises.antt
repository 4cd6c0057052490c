-- What the call promises where each line is a pair: the pairs of all lines of a text, in the first words and bytes. Assumes nothing.
use Rattle.std.specs.Prelude.{List, ℕ, length, take}
use Rattle.split.specs.Lines.{lines_of}
use Rattle.pairing.specs.declared.Pairs.{Pairs}
use Rattle.pairing.specs.Meaning.{Paired}

abbrev pub GatherPromise : (text d : List ℕ) → Pairs → (bytes words : List ℕ) → Type 0
GatherPromise text d r bytes words = Paired d (lines_of text) (take r.len bytes) (take r.count words) (length (lines_of text))
