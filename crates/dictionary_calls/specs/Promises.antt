-- What each call promises, and the words of its answer. Assumes nothing.
use Rattle.std.specs.Prelude.{◌≡◌, List, ℕ}
use Rattle.rules.specs.Rules.{code_of}
use Rattle.dictionary.specs.Dictionary as dictionary
use Rattle.dictionary.specs.Dictionary.{emptied, room_after}
use Rattle.strip.specs.Shapes.{words_of, dictionary_shape, name_shape}
use Rattle.strip.specs.Promises.{Left}

abbrev pub verdict_words : List ℕ → List ℕ
verdict_words d = words_of dictionary_shape (dictionary.verdict d)

abbrev pub DictionaryPromise : List ℕ → List ℕ → ℕ → List ℕ → Type 0
DictionaryPromise d strip = Left strip (verdict_words d)

abbrev pub name_at_words : List ℕ → ℕ → List ℕ
name_at_words d i = words_of name_shape (dictionary.name_at d i)

abbrev pub NamePromise : List ℕ → ℕ → List ℕ → ℕ → List ℕ → Type 0
NamePromise d i strip = Left strip (name_at_words d i)

-- the empty dictionary, and its room after it
pub record EmptyPromise (room : List ℕ) (code : ℕ) (after : List ℕ) : Type 0 where
  pub returns : code ≡ code_of (emptied room)
  pub leaves : after ≡ room_after room
