-- What a host learns from the six words of a strip, and from the code that a call returned. proofs/Tells.antt shows it of every answer that
-- meets the call's promise. Assumes nothing.
use Rattle.std.specs.Prelude.{◌≡◌, ◌↔◌, List, [], ◌∷◌, ◌++◌, ℕ, ◌*◌, ◌/◌, ◌%◌, ◌≤◌, ◌<◌, length, drop, Ok, Err}
use Rattle.width.specs.Width.{le}
use Rattle.rules.specs.Rules.{Answer}
use Rattle.part.specs.Part.{part}
use Rattle.dictionary.specs.Dictionary.{empty_bytes}
use Rattle.dictionary.specs.Meaning as dictionary
use Rattle.layer.specs.Meaning.{Layer, Refusal}
use Rattle.run.specs.Run.{name}
use Rattle.run.specs.Meaning.{BadEnd}
use Rattle.lookup.specs.ByName.{lookup}
use Rattle.lookup.specs.Meaning.{Found, Absent}
use Rattle.rows.specs.Rows.{row_of}
use Rattle.many.specs.Meaning as many
use Rattle.many.specs.Meaning.{Answered, RefusedAfter, row_at}
use Rattle.listing.specs.Words.{rows}
use Rattle.listing.specs.Meaning.{Listed, NoLength, NoRoom}
use Rattle.number.specs.Signed.{signed, extended}
use Rattle.layout.specs.declared.Widths.{Widths}
use Rattle.encoding.specs.declared.Header.TheVariants as header
use Rattle.lengths.specs.Lengths.{own_length}
use Rattle.value.specs.declared.Refusal.TheVariants.{Short, Unknown}
use Rattle.value.specs.Reading.{payload_start}
use Rattle.value.specs.Meaning.{Begins, OfType, Placed, Reads}
use Rattle.nodes.specs.Meaning as tree
use Rattle.marks.specs.Marks.{cleared}
use Rattle.steps.specs.Path.{Step}
use Rattle.writing.specs.Written.{total}
use Rattle.parsing.specs.Meaning as parsing
use Rattle.parsing.specs.ReadBack.{Laid}
use Rattle.path.specs.Meaning.{Says}
use Rattle.fill.specs.Bytes as fill
use Rattle.fill.specs.Steps.{list_of}
use Rattle.write.specs.Meaning as write
use Rattle.builder.specs.Bytes as builder
use Rattle.write_object.specs.Meaning as write-object
use Rattle.pieces.specs.Meaning as pieces
use Rattle.strip.specs.Shapes.{refusal_words, words_of, lookup_shape, dictionary_shape, strip_bytes}
use Rattle.lichenhusk.specs.Promises.{FeedPromise}
pub use Rattle.strip.specs.Reading.{word, words_in}

-- WHAT CODE, NUMBER, ID, START, END AND PLACE SAY, call by call

pub data DictionarySays (d : List ℕ) : List ℕ → Type 0 where
  accepted : {n e : ℕ} → dictionary.Dictionary d n e → DictionarySays d (0 ∷ n ∷ 0 ∷ 0 ∷ e ∷ 0 ∷ [])
  refused : {c p : ℕ} → 10 ≤ c → c < 20 → dictionary.Refusal d c p → DictionarySays d (refusal_words c p)

pub data NameSays (d : List ℕ) (i : ℕ) : List ℕ → Type 0 where
  named : {a e : ℕ} → dictionary.Named d i a e → NameSays d i (0 ∷ 0 ∷ 0 ∷ a ∷ e ∷ 0 ∷ [])
  no_entry : dictionary.NoEntry d i → NameSays d i (refusal_words 31 0)
  refused : {c p : ℕ} → 10 ≤ c → c < 20 → dictionary.Refusal d c p → NameSays d i (refusal_words c p)

pub data LayerSays (d o : List ℕ) : List ℕ → Type 0 where
  accepted : {n v e : ℕ} → Layer d o n v e → LayerSays d o (0 ∷ n ∷ 0 ∷ v ∷ e ∷ 0 ∷ [])
  refused : {c p : ℕ} → 10 ≤ c → c < 29 → Refusal d o c p → LayerSays d o (refusal_words c p)

pub data LookupSays (d o q : List ℕ) : List ℕ → Type 0 where
  found : {k i a e : ℕ} → Found d o q k i a e → LookupSays d o q (0 ∷ k ∷ i ∷ a ∷ e ∷ 0 ∷ [])
  absent : Absent d o q → LookupSays d o q (refusal_words 1 0)
  refused : {c p : ℕ} → 10 ≤ c → c < 29 → Refusal d o c p → LookupSays d o q (refusal_words c p)

-- of a name call: the dictionary's bytes from start to end are q
pub data Spelled (d q : List ℕ) : List ℕ → Type 0 where
  spelled : {a e : ℕ} → part d a e ≡ q → Spelled d q (0 ∷ 0 ∷ 0 ∷ a ∷ e ∷ 0 ∷ [])

pub data ListSays (d o words : List ℕ) : List ℕ → Type 0 where
  listed : {n v e : ℕ} → Listed d o words n v e → ListSays d o words (0 ∷ n ∷ 0 ∷ v ∷ e ∷ 0 ∷ [])
  no_length : {k : ℕ} → NoLength d o k → ListSays d o words (refusal_words 43 k)
  no_room : NoRoom d o words → ListSays d o words (refusal_words 41 0)
  refused : {c p : ℕ} → 10 ≤ c → c < 29 → Refusal d o c p → ListSays d o words (refusal_words c p)

-- of many names; 45 is checked first
pub data AllSays (d o names ends words : List ℕ) : List ℕ → Type 0 where
  answered : {n v e : ℕ} → Answered d o names ends words n v e → AllSays d o names ends words (0 ∷ n ∷ 0 ∷ v ∷ e ∷ 0 ∷ [])
  bad_end : {k : ℕ} → BadEnd names ends k → AllSays d o names ends words (refusal_words 45 k)
  no_room : many.NoRoom d o names ends words → AllSays d o names ends words (refusal_words 41 0)
  refused : {c p : ℕ} → 10 ≤ c → c < 29 → RefusedAfter d o names ends c p → AllSays d o names ends words (refusal_words c p)

-- of a value. An integer's 64 bits, w bytes extended; a float's own bits, a NaN's too; for all others the start and end of their bytes
pub data IntegerOf : (type width : ℕ) → Type 0 where
  int8 : IntegerOf 3 1
  int16 : IntegerOf 4 2
  int32 : IntegerOf 5 4
  int64 : IntegerOf 6 8

pub data ValueSays (s : List ℕ) : List ℕ → Type 0 where
  null : {n : ℕ} → OfType s 0 n → ValueSays s (0 ∷ 0 ∷ 0 ∷ 0 ∷ 0 ∷ 0 ∷ [])
  is_true : {n : ℕ} → OfType s 1 n → ValueSays s (0 ∷ 1 ∷ 0 ∷ 0 ∷ 0 ∷ 0 ∷ [])
  is_false : {n : ℕ} → OfType s 2 n → ValueSays s (0 ∷ 2 ∷ 0 ∷ 0 ∷ 0 ∷ 0 ∷ [])
  integer : {t w n b : ℕ} → OfType s t n → IntegerOf t w → b ≡ extended (signed w (drop 1 s))
      → ValueSays s (0 ∷ t ∷ 0 ∷ b % 4294967296 ∷ b / 4294967296 ∷ 0 ∷ [])
  double : {n : ℕ} → OfType s 7 n → ValueSays s (0 ∷ 7 ∷ 0 ∷ le 4 (drop 1 s) ∷ le 4 (drop 5 s) ∷ 0 ∷ [])
  float : {n : ℕ} → OfType s 14 n → ValueSays s (0 ∷ 14 ∷ 0 ∷ le 4 (drop 1 s) ∷ 0 ∷ 0 ∷ [])
  place : {t n : ℕ} → OfType s t n → Placed t → ValueSays s (0 ∷ t ∷ 0 ∷ payload_start t ∷ n ∷ 0 ∷ [])
  short_string : {k n : ℕ} → Begins s (header.ShortString k) n → ValueSays s (0 ∷ 257 ∷ 0 ∷ 1 ∷ n ∷ 0 ∷ [])
  object : {w : Widths} {n : ℕ} → Begins s (header.Object w) n → ValueSays s (0 ∷ 258 ∷ 0 ∷ 0 ∷ n ∷ 0 ∷ [])
  list : {w : Widths} {n : ℕ} → Begins s (header.List w) n → ValueSays s (0 ∷ 259 ∷ 0 ∷ 0 ∷ n ∷ 0 ∷ [])
  short : Reads s (Err Short) → ValueSays s (refusal_words 50 0)
  no_such_type : Reads s (Err Unknown) → ValueSays s (refusal_words 51 0)

-- of a tree: it is good, with its own length for an end; or its first refusal, with the start of the value that it is of
pub data TreeSays (d v : List ℕ) : List ℕ → Type 0 where
  accepted : {e : ℕ} → tree.GoodTree d v → own_length v ≡ Ok e → TreeSays d v (0 ∷ 0 ∷ 0 ∷ 0 ∷ e ∷ 0 ∷ [])
  refused : {c p a : ℕ} → tree.Refusal d v c p a → TreeSays d v (c ∷ 0 ∷ 0 ∷ a ∷ 0 ∷ p ∷ [])

-- of a path: what its answer says, as a lookup's words
pub data PathSays (d v path names words : List ℕ) : List ℕ → Type 0 where
  says : {r : Answer} → Says d v path names words r → PathSays d v path names words (words_of lookup_shape r)

-- of a dictionary that is written: so many names, in so many bytes; or what is refused
pub data WriteSays (run ends room : List ℕ) : List ℕ → Type 0 where
  written : {n b : ℕ} → write.Accepted run ends room n b → WriteSays run ends room (0 ∷ n ∷ 0 ∷ 0 ∷ b ∷ 0 ∷ [])
  refused : {c p : ℕ} → write.Refusal run ends room c p → WriteSays run ends room (refusal_words c p)

-- of an object that is written: so many fields, the region from v on, in so many bytes; or what is refused
pub data WriteObjectSays (d bytes pairs room : List ℕ) : List ℕ → Type 0 where
  written : {n v b : ℕ} → write-object.Accepted d bytes pairs room n v b → WriteObjectSays d bytes pairs room (0 ∷ n ∷ 0 ∷ v ∷ b ∷ 0 ∷ [])
  refused : {c p : ℕ} → write-object.Refusal d bytes pairs room c p → WriteObjectSays d bytes pairs room (refusal_words c p)

-- of a dictionary in pieces: what is answered to the bytes received, n of which there is room for
pub data PiecesSay (n : ℕ) (got : List ℕ) : List ℕ → Type 0 where
  says : {r : Answer} → pieces.Says n got r → PiecesSay n got (words_of dictionary_shape r)

-- PIECES, ONE AFTER ANOTHER, from one strip and store to another: each step is whatever code, strip and store the call may leave
pub data Runs : (strip store : List ℕ) → List (List ℕ) → (after left : List ℕ) → Type 0 where
  no_more : {strip store : List ℕ} → Runs strip store [] strip store
  one_more : {strip next after store mid left piece : List ℕ} {pieces : List (List ℕ)} {code : ℕ}
      → FeedPromise store piece strip code next mid → Runs next mid pieces after left → Runs strip store (piece ∷ pieces) after left

-- WHAT A CALL TELLS

-- 40 was returned exactly where the strip is short; with any other code the strip's words, the code first, say what is so
pub record Tells (Says : List ℕ → Type 0) (strip : List ℕ) (code : ℕ) (after : List ℕ) : Type 0 where
  pub no_strip : (code ≡ 40) ↔ (length strip < strip_bytes)
  pub says : (code ≡ 40 → ⊥) → (word after 0 ≡ code) × Says (words_in after)

-- the words lent to a listing are filled with 0, and as they were with any other code
pub record Fills (o words : List ℕ) (code : ℕ) (after words_after : List ℕ) : Type 0 where
  pub filled : code ≡ 0 → words_after ≡ rows o (word after 1) ++ drop (3 * word after 1) words
  pub kept : (code ≡ 0 → ⊥) → words_after ≡ words

-- and those lent for many names: with 0 the five words of name k are what a lookup of it alone answers, and the words after all rows stay
pub record FillsAll (d o names ends words : List ℕ) (code : ℕ) (words_after : List ℕ) : Type 0 where
  pub filled : code ≡ 0 → (k : ℕ) → k < length ends → row_at words_after k ≡ row_of (lookup d o (name names ends k))
  pub past : code ≡ 0 → drop (5 * length ends) words_after ≡ drop (5 * length ends) words
  pub kept : (code ≡ 0 → ⊥) → words_after ≡ words

-- the marks lent to a tree's check: as they were with 40, and all 0 with any other code
pub record Clears (marks : List ℕ) (code : ℕ) (marks_after : List ℕ) : Type 0 where
  pub kept : code ≡ 40 → marks_after ≡ marks
  pub none_left : (code ≡ 40 → ⊥) → marks_after ≡ cleared marks

-- the two buffers lent for a path: as they were with 40 and with the path's own refusals; with any other code they have its steps, and the rest
-- of both stays
pub record Steps (path names words names' words' : List ℕ) : Type 0 where
  pub all : List Step
  pub accepted : parsing.Accepted path names words all
  pub stand : Laid names' words' 0 all
  pub names_rest : drop (total all) names' ≡ drop (total all) names
  pub words_rest : drop (3 * length all) words' ≡ drop (3 * length all) words

pub record FillsSteps (path names words : List ℕ) (code : ℕ) (names' words' : List ℕ) : Type 0 where
  pub no_strip : code ≡ 40 → (names' ≡ names) × (words' ≡ words)
  pub kept : 70 ≤ code → (names' ≡ names) × (words' ≡ words)
  pub filled : (code ≡ 40 → ⊥) → code < 70 → Steps path names words names' words'

-- the empty dictionary's code and room
pub record EmptyTells (room : List ℕ) (code : ℕ) (after : List ℕ) : Type 0 where
  pub written : (code ≡ 0) ↔ ((3 ≤ length room) × (after ≡ empty_bytes ++ drop 3 room))
  pub no_room : (code ≡ 42) ↔ ((length room < 3) × (after ≡ room))

-- the room lent for a dictionary: with 0 it is at the front and the bytes after it are as they were; with any other code all are
pub record FillsRoom (run ends room : List ℕ) (code : ℕ) (after room_after : List ℕ) : Type 0 where
  pub filled : code ≡ 0 → room_after ≡ fill.dictionary (list_of run ends) ++ drop (word after 4) room
  pub kept : (code ≡ 0 → ⊥) → room_after ≡ room

-- and the room lent for an object
pub record FillsObject (d bytes pairs room : List ℕ) (code : ℕ) (after room_after : List ℕ) : Type 0 where
  pub filled : code ≡ 0 → room_after ≡ builder.object d bytes pairs ++ drop (word after 4) room
  pub kept : (code ≡ 0 → ⊥) → room_after ≡ room
