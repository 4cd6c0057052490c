-- UTF-8 by RFC 3629, section 4 (document 01, "Dictionary bytes"): which bytes are a character, what a text is, how long a text a list starts
-- with, and what the proper beginning of a character is (document 02, b). Assumes nothing.
use Rattle.std.specs.Prelude.{◌≡◌, Bool, true, false, cond, ◌&&◌, List, [], ◌∷◌, ◌++◌, ℕ, zero, suc, ◌≤◌, ◌<◌, leb, ltb, length, take, drop, Option, Some, None}
use Rattle.walk.specs.Walk.{Items, up_to}
use Rattle.leads.specs.declared.Lead.{Lead}
use Rattle.leads.specs.Table.{asks, lead_of}

-- A CHARACTER is a first byte of the table and what that asks.

-- `rest` bytes, the first from `lo` to `hi` and the others from 80 to BF
pub data Tails : ℕ → ℕ → ℕ → List ℕ → Type 0 where
  end : {lo hi : ℕ} → Tails lo hi 0 []
  next : {lo hi rest b : ℕ} {s : List ℕ} → lo ≤ b → b ≤ hi → Tails 0x80 0xBF rest s → Tails lo hi (suc rest) (b ∷ s)

pub data Char : List ℕ → Type 0 where
  char_of : {lo hi rest a : ℕ} {s : List ℕ} → lead_of a ≡ asks lo hi rest → Tails lo hi rest s → Char (a ∷ s)

-- A TEXT is characters one after another.
abbrev pub Text : List ℕ → Type 0
Text = Items Char

-- a place of a text at which no character is cut: what stands before it is a text, and so is the rest
abbrev pub Bound : List ℕ → ℕ → Type 0
Bound s i = Text (take i s) × Text (drop i s)

-- A PROPER BEGINNING of a character: it is not empty, and there are further bytes, at least one, with which it is a character.
pub record Begins (s : List ℕ) : Type 0 where
  pub some : 0 < length s
  pub further : List ℕ
  pub at_least_one : 0 < length further
  pub whole : Char (s ++ further)

-- further bytes with which a list is a text (proofs/Truncated.antt: a list that is none has them exactly if it is cut)
pub record Completed (s : List ℕ) : Type 0 where
  pub further : List ℕ
  pub is_text : Text (s ++ further)

-- p is the length of the longest well-formed prefix of a list that is no text
pub record LongestText (s : List ℕ) (p : ℕ) : Type 0 where
  pub short : p < length s
  pub is_text : Text (take p s)
  pub longest : (n : ℕ) → n ≤ length s → Text (take n s) → n ≤ p

-- THE SAME AS FUNCTIONS.

unfoldable pub tails_of : ℕ → ℕ → ℕ → List ℕ → Bool
tails_of lo hi zero s = true
tails_of lo hi (suc rest) [] = false
tails_of lo hi (suc rest) (b ∷ s) = leb lo b && (leb b hi && tails_of 0x80 0xBF rest s)

abbrev pub char_by : Option Lead → List ℕ → ℕ
char_by None s = 0
char_by (Some a) s = cond (tails_of a.lo a.hi a.rest s) (suc a.rest) 0

-- the length of the character that a list starts with, 0 where it starts with none
unfoldable pub char : List ℕ → ℕ
char [] = 0
char (a ∷ s) = char_by (lead_of a) s

-- the length of the longest well-formed prefix
unfoldable pub text_up_to : List ℕ → ℕ
text_up_to s = up_to char s

-- a proper beginning has fewer bytes than its first one asks for, and all of them fit
abbrev pub begins_by : Option Lead → List ℕ → Bool
begins_by None s = false
begins_by (Some a) s = ltb (length s) a.rest && tails_of a.lo a.hi (length s) s

unfoldable pub begins : List ℕ → Bool
begins [] = false
begins (a ∷ s) = begins_by (lead_of a) s
