-- What document 01 asks of a dictionary, in its words and its order: the rules that hold of an accepted one, and when each refusal is due.
-- metadata/proofs/Accepts.antt and metadata/proofs/Refuses.antt show that the verdict of Dictionary.antt says the same. Assumes nothing.
use Rattle.std.specs.Prelude.{◌≡◌, true, List, ℕ, ◌+◌, ◌-◌, ◌≤◌, ◌<◌, length, drop, get_or}
use Rattle.leads.specs.Table.{Cont}
use Rattle.chars.specs.Rfc3629.{Text, Begins, LongestText}
use Rattle.names.specs.Order.{Before}
use Rattle.width.specs.Limits.{u32_max}
use Rattle.dictionary.specs.Limits.{limit}
use Rattle.dictionary.specs.Dictionary.{version, sorted, width, count, offset, start, end, region, name}

-- WHAT THE CHECKS ASK, EACH WITH THOSE BEFORE IT

pub record Sized (d : List ℕ) : Type 0 where
  pub not_long : length d ≤ limit
  pub not_empty : 1 ≤ length d

pub record Versioned (d : List ℕ) : Type 0 where
  pub sized : Sized d
  pub version_one : version d ≡ 1

pub record Counted (d : List ℕ) : Type 0 where
  pub versioned : Versioned d
  pub count_inside : 1 + width d ≤ length d

pub record Placed (d : List ℕ) : Type 0 where
  pub counted : Counted d
  pub start_fits : start d ≤ u32_max
  pub start_inside : start d ≤ length d

pub record Headed (d : List ℕ) : Type 0 where
  pub placed : Placed d
  pub first_zero : offset d 0 ≡ 0
  pub end_fits : end d ≤ u32_max
  pub end_inside : end d ≤ length d

pub record Texted (d : List ℕ) : Type 0 where
  pub headed : Headed d
  pub is_text : Text (region d)

-- an offset inside the region on a byte 80-BF
pub record Cut (d : List ℕ) (k : ℕ) : Type 0 where
  pub inside : offset d k < length (region d)
  pub on_tail : Cont (get_or (region d) (offset d k) 0)

-- entry k's offsets do not fall, stay in the region and cut no character
pub record InRange (d : List ℕ) (k : ℕ) : Type 0 where
  pub rises : offset d k ≤ offset d (k + 1)
  pub stays : offset d (k + 1) ≤ length (region d)
  pub start_whole : Cut d k → ⊥
  pub end_whole : Cut d (k + 1) → ⊥

pub record GoodEntry (d : List ℕ) (k : ℕ) : Type 0 where
  pub in_range : InRange d k
  pub above : sorted d ≡ true → 0 < k → Before (name d (k - 1)) (name d k)

-- THE RULES OF AN ACCEPTED DICTIONARY with n entries and the trimmed end e
pub record Dictionary (d : List ℕ) (n e : ℕ) : Type 0 where
  pub texted : Texted d
  pub entries : (k : ℕ) → k < count d → GoodEntry d k
  pub counts : n ≡ count d
  pub ends : e ≡ end d

-- WHEN EACH REFUSAL IS DUE

pub data Refusal (d : List ℕ) : ℕ → ℕ → Type 0 where
  too_long : limit < length d → Refusal d 10 0
  empty : length d ≡ 0 → Refusal d 11 0
  other_version : Sized d → (version d ≡ 1 → ⊥) → Refusal d 12 0
  count_cut : Versioned d → length d < 1 + width d → Refusal d 13 0
  start_sum : Counted d → u32_max < start d → Refusal d 14 0
  start_short : Counted d → start d ≤ u32_max → length d < start d → Refusal d 13 0
  first_offset : Placed d → (offset d 0 ≡ 0 → ⊥) → Refusal d 15 0
  end_sum : Placed d → offset d 0 ≡ 0 → u32_max < end d → Refusal d 14 0
  end_short : Placed d → offset d 0 ≡ 0 → end d ≤ u32_max → length d < end d → Refusal d 13 0
  cut_text : {p : ℕ} → Headed d → LongestText (region d) p → Begins (drop p (region d)) → Refusal d 19 p
  no_text : {p : ℕ} → Headed d → LongestText (region d) p → (Begins (drop p (region d)) → ⊥) → Refusal d 16 p
  bad_range : {k : ℕ} → Texted d → k < count d → ((j : ℕ) → j < k → GoodEntry d j) → (InRange d k → ⊥) → Refusal d 17 k
  not_above : {k : ℕ} → Texted d → k < count d → ((j : ℕ) → j < k → GoodEntry d j) → InRange d k → sorted d ≡ true → 0 < k
      → (Before (name d (k - 1)) (name d k) → ⊥) → Refusal d 18 k

-- A NAME BY ITS NUMBER

-- of an accepted dictionary, entry i stands from a to e
pub record Named (d : List ℕ) (i a e : ℕ) : Type 0 where
  pub accepted : Dictionary d (count d) (end d)
  pub is_entry : i < count d
  pub starts : a ≡ start d + offset d i
  pub ends : e ≡ start d + offset d (i + 1)

-- or the entry number is at or above the count
pub record NoEntry (d : List ℕ) (i : ℕ) : Type 0 where
  pub accepted : Dictionary d (count d) (end d)
  pub beyond : count d ≤ i
