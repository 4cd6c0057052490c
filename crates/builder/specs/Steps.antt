-- What the steps of the writer tell each other. Assumes nothing.
use Rattle.std.specs.Prelude.{◌≡◌, Bool, List, ℕ, ◌+◌, ◌≤◌, length, Option}
use Rattle.std.specs.Borrow.{Bor}
use Rattle.sets.specs.Sets.{Distinct, total}
use Rattle.source.specs.declared.Source.TheVariants as source
use Rattle.source.specs.Pairs.{pairs}
use Rattle.source.specs.Names.{Entries, Over}
use Rattle.pick.specs.Pick as pick
use Rattle.pairs.specs.Checks.{pair_name}
use Rattle.builder.specs.Bytes.{children, start_for}

-- pairs of entries of a checked dictionary; no name stands twice, and their order is known
pub record Ready (d words : List ℕ) (order : Option (Bor (List ℕ))) (region : ℕ) (sorts : Bool) : Type 0 where
  pub over : Over d region sorts
  pub entries : Entries d words
  pub distinct : Distinct (pair_name d words) 0 (pairs words)
  pub sorted : pick.Sorted d words (source.Pairs region sorts) order

-- where all has room
pub record Laid (wi wo : ℕ) (d bytes words room : List ℕ) (count region : ℕ) : Type 0 where
  pub ids_some : 1 ≤ wi
  pub ids_few : wi ≤ 4
  pub offsets_some : 1 ≤ wo
  pub offsets_few : wo ≤ 4
  pub count_is : count ≡ pairs words
  pub region_is : region ≡ start_for wi wo (pairs words)
  pub fits : region + total (children d bytes words) ≤ length room
