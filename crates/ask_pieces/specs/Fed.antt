-- What a program has after a piece: the six numbers, and the store. A strip that is settled keeps both. Assumes nothing.
use Rattle.std.specs.Prelude.{cond, List, ℕ}
use Rattle.pieces.specs.declared.State.TheVariants.{More}
use Rattle.pieces.specs.Feed.{store_after}
use Rattle.lichenhusk.specs.Strip.{wants_more, held_in, feed_words}
use Rattle.strip.specs.Reading.{words_in}

abbrev pub words_after : (store piece strip : List ℕ) → List ℕ
words_after store piece strip = cond (wants_more strip) (feed_words store piece strip) (words_in strip)

abbrev pub store_left : (store piece strip : List ℕ) → List ℕ
store_left store piece strip = cond (wants_more strip) (store_after store piece (More (held_in strip))) store
