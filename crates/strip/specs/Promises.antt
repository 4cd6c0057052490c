-- What calls through a strip promise: the code that is returned, and all lent memory afterwards. Assumes nothing.
use Rattle.std.specs.Prelude.{◌≡◌, List, ℕ}
use Rattle.strip.specs.Strip.{returned, strip_after, filled_after}

-- of every call that fills a strip: the words of its answer
pub record Left (strip words : List ℕ) (code : ℕ) (after : List ℕ) : Type 0 where
  pub returns : code ≡ returned strip words
  pub leaves : after ≡ strip_after strip words

-- of a call that fills lent words or room, or clears lent marks: what stands in them afterwards
pub record Filled (strip words lent filled : List ℕ) (code : ℕ) (after lent_after : List ℕ) : Type 0 where
  pub strip_left : Left strip words code after
  pub words_left : lent_after ≡ filled_after strip lent filled
