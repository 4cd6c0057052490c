-- What the steps of the writer tell each other. Assumes nothing.
use Rattle.std.specs.Prelude.{◌≡◌, List, ℕ, ◌+◌, ◌*◌, ◌≤◌, length, Option}
use Rattle.std.specs.Borrow.{Bor}
use Rattle.sets.specs.Sets.{total}
use Rattle.source.specs.declared.Source.TheVariants as source
use Rattle.pick.specs.Pick as pick

-- the names of a run with ends
abbrev pub list_of : List ℕ → List ℕ → List (List ℕ)
list_of run ends = pick.list_of run ends source.Ends

abbrev pub Sorted : List ℕ → List ℕ → Option (Bor (List ℕ)) → Type 0
Sorted run ends order = pick.Sorted run ends source.Ends order

-- where all has room
pub record Laid (w : ℕ) (names : List (List ℕ)) (room : List ℕ) (count region : ℕ) : Type 0 where
  pub some : 1 ≤ w
  pub few : w ≤ 4
  pub count_is : count ≡ length names
  pub region_is : region ≡ 1 + w + w * (length names + 1)
  pub fits : region + total names ≤ length room
