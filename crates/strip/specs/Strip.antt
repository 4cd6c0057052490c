-- The strip, which carries an answer through C (document 01, "Strip", and request c) of document 02): its six words go to the first 24 bytes,
-- each a little-endian u32. Bytes after stay. The call returns the code. With 40 nothing is written. Assumes nothing.
use Rattle.std.specs.Prelude.{cond, List, ◌++◌, ℕ, ltb, length, drop, get_or}
use Rattle.strip.specs.Shapes.{bytes_of_words, strip_bytes}

-- THE STRIP: 40, below 24 bytes, is checked first

unfoldable pub returned : List ℕ → List ℕ → ℕ
returned strip words = cond (ltb (length strip) strip_bytes) 40 (get_or words 0 0)

unfoldable pub strip_after : List ℕ → List ℕ → List ℕ
strip_after strip words = cond (ltb (length strip) strip_bytes) strip (bytes_of_words words ++ drop strip_bytes strip)

-- and lent words or room that a call fills, or marks that it clears: as lent with 40
unfoldable pub filled_after : List ℕ → List ℕ → List ℕ → List ℕ
filled_after strip lent filled = cond (ltb (length strip) strip_bytes) lent filled
