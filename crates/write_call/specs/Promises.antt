-- What the call promises, and the words of its answer. Assumes nothing.
use Rattle.std.specs.Prelude.{List, ℕ}
use Rattle.write.specs.Writing.{written, room_after as written_after}
use Rattle.strip.specs.Shapes.{words_of, dictionary_shape}
use Rattle.strip.specs.Promises.{Filled}

abbrev pub write_words : (run ends room : List ℕ) → List ℕ
write_words run ends room = words_of dictionary_shape (written run ends room)

-- a dictionary that is written, and its room after it; nothing is said of scratch
abbrev pub WritePromise : (run ends room strip : List ℕ) → ℕ → List ℕ → List ℕ → Type 0
WritePromise run ends room strip = Filled strip (write_words run ends room) room (written_after run ends room)
