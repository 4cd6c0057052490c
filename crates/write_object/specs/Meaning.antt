-- What document 02, k), says of what is written, in its words: good pairs, and when each refusal is due. proofs/ shows that Writing.antt says
-- the same. Assumes nothing.
use Rattle.std.specs.Prelude.{◌≡◌, List, ℕ, ◌≤◌, ◌<◌, length}
use Rattle.dictionary.specs.Limits.{limit}
use Rattle.dictionary.specs.Dictionary as dictionary
use Rattle.dictionary.specs.Meaning as dictionary-meaning
use Rattle.sets.specs.Sets.{Distinct}
use Rattle.source.specs.Pairs.{pairs}
use Rattle.source.specs.Names.{Entries, GoodRanges}
use Rattle.doubles.specs.Doubles.{Double}
use Rattle.pairs.specs.Checks.{pair_name}
use Rattle.pairs.specs.Meaning.{SomeBytes, NoEntry, BadRange, EmptyChild}
use Rattle.builder.specs.Bytes.{start, size}

-- WHAT THE CHECKS ASK, EACH WITH THOSE BEFORE IT

pub record Over (d : List ℕ) : Type 0 where
  pub accepted : dictionary-meaning.Dictionary d (dictionary.count d) (dictionary.end d)

-- every id is an entry
pub record Known (d words : List ℕ) : Type 0 where
  pub over : Over d
  pub entries : Entries d words

-- no two pairs have one name
pub record Single (d words : List ℕ) : Type 0 where
  pub known : Known d words
  pub distinct : Distinct (pair_name d words) 0 (pairs words)

-- every child lies in the lent bytes
pub record Ranged (d bytes words : List ℕ) : Type 0 where
  pub single : Single d words
  pub ranges : GoodRanges bytes words

-- GOOD PAIRS: and every child has a byte
pub record GoodPairs (d bytes words : List ℕ) : Type 0 where
  pub ranged : Ranged d bytes words
  pub some : SomeBytes words

-- WHEN EACH REFUSAL IS DUE, in their order
pub data Refusal (d bytes words room : List ℕ) : ℕ → ℕ → Type 0 where
  of_dictionary : {c p : ℕ} → dictionary-meaning.Refusal d c p → Refusal d bytes words room c p
  no_entry : {k : ℕ} → Over d → NoEntry d words k → Refusal d bytes words room 25 k
  double : {k : ℕ} → Known d words → Double (pair_name d words) (pairs words) k → Refusal d bytes words room 26 k
  bad_range : {k : ℕ} → Single d words → BadRange bytes words k → Refusal d bytes words room 45 k
  empty_child : {k : ℕ} → Ranged d bytes words → EmptyChild words k → Refusal d bytes words room 28 k
  too_long : GoodPairs d bytes words → limit < size d bytes words → Refusal d bytes words room 20 0
  no_room : GoodPairs d bytes words → size d bytes words ≤ limit → length room < size d bytes words → Refusal d bytes words room 46 0

-- AND WHAT AN ANSWER SAYS: so many fields were written, the region from v on, in so many bytes
pub record Accepted (d bytes words room : List ℕ) (n v e : ℕ) : Type 0 where
  pub good : GoodPairs d bytes words
  pub within : size d bytes words ≤ limit
  pub fits : size d bytes words ≤ length room
  pub counts : n ≡ pairs words
  pub starts : v ≡ start d bytes words
  pub ends : e ≡ size d bytes words
