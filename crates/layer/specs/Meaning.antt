-- What document 01 asks of an object layer, in its words and its order: the rules that hold of an accepted one, and when each refusal is due.
-- Accepts.antt and Refuses.antt of `object` show that the verdict of Object.antt says the same. Assumes nothing.
use Rattle.std.specs.Prelude.{◌≡◌, List, ℕ, ◌-◌, ◌≤◌, ◌<◌, length}
use Rattle.names.specs.Order.{Before}
use Rattle.width.specs.Limits.{u32_max}
use Rattle.dictionary.specs.Limits.{limit}
use Rattle.dictionary.specs.Dictionary as dictionary
use Rattle.dictionary.specs.Meaning as dictionary-meaning
use Rattle.layer.specs.Object.{basic_type, count, ids_start, id, offsets_start, offset, start, end, field_name}

-- WHAT THE CHECKS ASK, EACH WITH THOSE BEFORE IT

pub record Sized (d o : List ℕ) : Type 0 where
  pub over : dictionary-meaning.Dictionary d (dictionary.count d) (dictionary.end d)
  pub not_long : length o ≤ limit
  pub not_empty : 1 ≤ length o

pub record Typed (d o : List ℕ) : Type 0 where
  pub sized : Sized d o
  pub is_object : basic_type o ≡ 2

pub record Counted (d o : List ℕ) : Type 0 where
  pub typed : Typed d o
  pub count_inside : ids_start o ≤ length o

pub record Placed (d o : List ℕ) : Type 0 where
  pub counted : Counted d o
  pub offsets_fit : offsets_start o ≤ u32_max
  pub start_fits : start o ≤ u32_max
  pub start_inside : start o ≤ length o

pub record Headed (d o : List ℕ) : Type 0 where
  pub placed : Placed d o
  pub end_fits : end o ≤ u32_max
  pub end_inside : end o ≤ length o

-- field k's id is an entry, and its name is above the one before
pub record GoodName (d o : List ℕ) (k : ℕ) : Type 0 where
  pub entry : id o k < dictionary.count d
  pub above : 0 < k → Before (field_name d o (k - 1)) (field_name d o k)

pub record Named (d o : List ℕ) : Type 0 where
  pub headed : Headed d o
  pub names : (k : ℕ) → k < count o → GoodName d o k

-- field k's offset is below the region's length, so that its child has a byte
abbrev pub InRegion : List ℕ → ℕ → Type 0
InRegion o k = offset o k < offset o (count o)

-- THE RULES OF AN ACCEPTED LAYER with n fields, the region from v to the trimmed end e
pub record Layer (d o : List ℕ) (n v e : ℕ) : Type 0 where
  pub named : Named d o
  pub offsets : (k : ℕ) → k < count o → InRegion o k
  pub counts : n ≡ count o
  pub starts : v ≡ start o
  pub ends : e ≡ end o

-- WHEN EACH REFUSAL IS DUE

pub data Refusal (d o : List ℕ) : ℕ → ℕ → Type 0 where
  of_dictionary : {c p : ℕ} → dictionary-meaning.Refusal d c p → Refusal d o c p
  too_long : dictionary-meaning.Dictionary d (dictionary.count d) (dictionary.end d) → limit < length o → Refusal d o 20 0
  empty : dictionary-meaning.Dictionary d (dictionary.count d) (dictionary.end d) → length o ≡ 0 → Refusal d o 21 0
  other_type : Sized d o → (basic_type o ≡ 2 → ⊥) → Refusal d o 22 0
  count_cut : Typed d o → length o < ids_start o → Refusal d o 23 0
  offsets_sum : Counted d o → u32_max < offsets_start o → Refusal d o 24 0
  start_sum : Counted d o → offsets_start o ≤ u32_max → u32_max < start o → Refusal d o 24 0
  start_short : Counted d o → offsets_start o ≤ u32_max → start o ≤ u32_max → length o < start o → Refusal d o 23 0
  end_sum : Placed d o → u32_max < end o → Refusal d o 24 0
  end_short : Placed d o → end o ≤ u32_max → length o < end o → Refusal d o 23 0
  no_entry : {k : ℕ} → Headed d o → k < count o → ((j : ℕ) → j < k → GoodName d o j) → dictionary.count d ≤ id o k → Refusal d o 25 k
  not_above : {k : ℕ} → Headed d o → k < count o → ((j : ℕ) → j < k → GoodName d o j) → id o k < dictionary.count d → 0 < k
      → (Before (field_name d o (k - 1)) (field_name d o k) → ⊥) → Refusal d o 26 k
  past_region : {k : ℕ} → Named d o → k < count o → ((j : ℕ) → j < k → InRegion o j) → offset o (count o) < offset o k → Refusal d o 27 k
  empty_child : {k : ℕ} → Named d o → k < count o → ((j : ℕ) → j < k → InRegion o j) → offset o k ≡ offset o (count o) → Refusal d o 28 k
