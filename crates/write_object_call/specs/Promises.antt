-- What the call promises, and the words of its answer. Assumes nothing.
use Rattle.std.specs.Prelude.{List, ℕ}
use Rattle.write_object.specs.Writing.{written, room_after as object_after}
use Rattle.strip.specs.Shapes.{words_of, layer_shape}
use Rattle.strip.specs.Promises.{Filled}

-- field count, region start, length
abbrev pub write_object_words : (d bytes pairs room : List ℕ) → List ℕ
write_object_words d bytes pairs room = words_of layer_shape (written d bytes pairs room)

-- an object that is written, and its room after it; nothing is said of scratch
abbrev pub WriteObjectPromise : (d bytes pairs room strip : List ℕ) → ℕ → List ℕ → List ℕ → Type 0
WriteObjectPromise d bytes pairs room strip = Filled strip (write_object_words d bytes pairs room) room (object_after d bytes pairs room)
