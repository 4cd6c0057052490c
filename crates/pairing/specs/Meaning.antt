-- What a line `NAME HEX` says over a dictionary: NAME is all before the last space, HEX all after it. Assumes nothing.
use Rattle.std.specs.Prelude.{◌≡◌, Bool, List, [], ℕ, ◌+◌, ◌*◌, ◌≤◌, ◌<◌, eqb, length, take, drop, get_or, Option, Some, None, Ok}
use Rattle.text.specs.Text.{before, hex_of}
use Rattle.dictionary.specs.Dictionary.{count, name}
use Rattle.source.specs.Pairs.{id, from, to, child}

-- HALVES OF A LINE

abbrev pub space : ℕ → Bool
space b = eqb b 0x20

abbrev pub NoSpace : List ℕ → Type 0
NoSpace s = before space s ≡ length s

-- its last space is at a place
pub record Halves (line : List ℕ) (at : ℕ) : Type 0 where
  pub inside : at < length line
  pub is_space : get_or line at 0 ≡ 0x20
  pub is_last : NoSpace (drop (at + 1) line)

-- where it is, or none
abbrev pub LastSpace : (line : List ℕ) → Option ℕ → Type 0
LastSpace line (Some at) = Halves line at
LastSpace line None = NoSpace line

-- THE ENTRY OF A NAME: the first that is it
pub record EntryOf (d query : List ℕ) (i : ℕ) : Type 0 where
  pub inside : i < count d
  pub is_name : name d i ≡ query
  pub is_first : (j : ℕ) → j < i → name d j ≡ query → ⊥

-- or none
abbrev pub SoughtOf : (d query : List ℕ) → Option ℕ → Type 0
SoughtOf d query (Some i) = EntryOf d query i
SoughtOf d query None = (j : ℕ) → j < count d → name d j ≡ query → ⊥

-- A PAIR: the entry of NAME, and the bytes that HEX spells
pub record PairOf (d line : List ℕ) (i : ℕ) (child : List ℕ) : Type 0 where
  pub at : ℕ
  pub halves : Halves line at
  pub entry : EntryOf d (take at line) i
  pub spelt : hex_of (drop (at + 1) line) (length (drop (at + 1) line)) ≡ Ok child

-- PAIR k of words over bytes is that of a line
pub record Stands (d line bytes words : List ℕ) (k : ℕ) : Type 0 where
  pub pair : PairOf d line (id words k) (child bytes words k)
  pub rises : from words k ≤ to words k
  pub inside : to words k ≤ length bytes

-- and so the pairs are those of the first n lines, one a line
pub record Paired (d : List ℕ) (lines : List (List ℕ)) (bytes words : List ℕ) (n : ℕ) : Type 0 where
  pub counts : length words ≡ 3 * n
  pub stands : (k : ℕ) → k < n → Stands d (get_or lines k []) bytes words k
