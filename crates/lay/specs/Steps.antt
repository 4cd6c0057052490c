-- What the steps of the writers tell each other. Assumes nothing.
use Rattle.std.specs.Prelude.{◌≡◌, List, [], ℕ, ◌+◌, ◌≤◌, ◌<◌, max, length, get_or, take, drop, Option, Some, None, Result, Ok, Err}
use Rattle.std.proofs.lemmas.List.Edits.{sets}
use Rattle.put.specs.Numbers.{numbers}
use Rattle.dictionary.specs.Limits.{limit}
use Rattle.sets.specs.Sets.{total}
use Rattle.source.specs.declared.Source.{Source}
use Rattle.source.specs.Names.{name_of, count_of, Sound, item_of, Ranged}
use Rattle.pick.specs.Pick as pick
use Rattle.lay.specs.declared.Item.{Item}
use Rattle.lay.specs.declared.Sizes.{Sizes}
use Rattle.lay.specs.declared.TooLong.{TooLong}
use Rattle.lay.specs.Items.{items_of}
use Rattle.lay.specs.Bytes.{offsets, joined}

-- what numbers of one name write is the same
abbrev pub Steady : List ℕ → List ℕ → List ℕ → Source → Type 0
Steady run words bytes kind =
    (i j : ℕ) → i < count_of words kind → j < count_of words kind → name_of run words kind i ≡ name_of run words kind j
    → item_of bytes words kind i ≡ item_of bytes words kind j

-- names and items have their places
pub record Lent (run words bytes : List ℕ) (kind : Source) : Type 0 where
  pub sound : Sound run words kind
  pub ranged : Ranged bytes words kind
  pub steady : Steady run words bytes kind

-- name j of the list is that of this number, and these are its item's bytes
pub record Stands (run words bytes : List ℕ) (kind : Source) (j number start len : ℕ) : Type 0 where
  pub is_name : pick.Stands run words kind j number
  pub inside : start + len ≤ length bytes
  pub bytes_are : take len (drop start bytes) ≡ get_or (items_of run words bytes kind) j []
  pub len_is : len ≡ length (get_or (items_of run words bytes kind) j [])

abbrev pub EntryOf : List ℕ → List ℕ → List ℕ → Source → ℕ → Option Item → Type 0
EntryOf run words bytes kind j None = j ≡ length (items_of run words bytes kind)
EntryOf run words bytes kind j (Some item) = Stands run words bytes kind j item.number item.start item.len

-- the count and the total length, where they are within the limit
pub record SizesOf (items : List (List ℕ)) (count sum : ℕ) : Type 0 where
  pub count_is : count ≡ length items
  pub sum_is : sum ≡ total items
  pub few : count ≤ limit
  pub short : sum ≤ limit

abbrev pub MeasuredOf : List (List ℕ) → Result Sizes TooLong → Type 0
MeasuredOf items (Err _) = limit < max (length items) (total items)
MeasuredOf items (Ok sizes) = SizesOf items sizes.count sizes.sum

-- offsets from `at` on and items from `region` on have room, the one before the other
pub record Apart (w : ℕ) (items : List (List ℕ)) (room : List ℕ) (at region : ℕ) : Type 0 where
  pub offsets_fit : at + length (numbers w (offsets 0 items)) ≤ region
  pub items_fit : region + length (joined items) ≤ length room

-- and what the room is with both
unfoldable pub filled : ℕ → List (List ℕ) → List ℕ → ℕ → ℕ → List ℕ
filled w items room at region = sets (sets room at (numbers w (offsets 0 items))) region (joined items)
