-- What the calls of a dictionary in pieces promise: the strip is the state (document 02, l). Of it the code is read, and where that is 3 the
-- bytes held; any other code is settled, and all stays as it is. Assumes nothing.
use Rattle.std.specs.Prelude.{◌≡◌, Bool, cond, List, [], ◌∷◌, ℕ, eqb, drop}
use Rattle.width.specs.Width.{le}
use Rattle.strip.specs.Shapes.{words_of, dictionary_shape}
use Rattle.strip.specs.Strip.{returned, strip_after, filled_after}
use Rattle.strip.specs.Promises.{Left}
use Rattle.pieces.specs.declared.State.TheVariants.{More}
use Rattle.pieces.specs.Pieces.{more}
use Rattle.pieces.specs.Feed.{fed, store_after}

-- the state that a strip is: its code, whether that is "more", and the bytes held
abbrev pub code_in : List ℕ → ℕ
code_in strip = le 4 (drop 0 strip)

abbrev pub wants_more : List ℕ → Bool
wants_more strip = eqb (code_in strip) 3

abbrev pub held_in : List ℕ → ℕ
held_in strip = le 4 (drop 4 strip)

-- the first state: nothing held, the first byte wanted
abbrev pub begin_words : List ℕ
begin_words = words_of dictionary_shape (more 0 1)

abbrev pub BeginPromise : (strip : List ℕ) → ℕ → List ℕ → Type 0
BeginPromise strip = Left strip begin_words

-- the state after a piece: of "more" the bytes held, 0, 0, the bytes wanted; else the dictionary's words, or 44
abbrev pub feed_words : (store piece strip : List ℕ) → List ℕ
feed_words store piece strip = words_of dictionary_shape (fed store piece (More (held_in strip)))

-- 40 first; then a settled strip, whose code comes back; then the piece
pub record FeedPromise (store piece strip : List ℕ) (code : ℕ) (after store_left : List ℕ) : Type 0 where
  pub returns : code ≡ returned strip (cond (wants_more strip) (feed_words store piece strip) (code_in strip ∷ []))
  pub leaves : after ≡ cond (wants_more strip) (strip_after strip (feed_words store piece strip)) strip
  pub stores : store_left ≡ cond (wants_more strip) (filled_after strip store (store_after store piece (More (held_in strip)))) store
