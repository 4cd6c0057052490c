-- A probe narrows the search from above, and the last field that may be the query's settles it. Assumes nothing.
use Rattle.rules.proofs.Prelude.{◌≡◌, List, ℕ, ◌+◌, ◌-◌, ◌≤◌, ◌<◌, arith, pass}
use Rattle.names.specs.Order.{Before}
use Rattle.names.specs.Order.Says.{less, equal, greater}
use Rattle.names.specs.Search.{seek}
use Rattle.names.specs.Search.Sought.{nowhere, here}
use Rattle.names.proofs.Laws.{compare_of_law}
use Rattle.names.proofs.Search.{between_less, between_greater, between_equal, between_none}
use Rattle.keys.specs.Steps.{KeyOf}
use Rattle.keys.proofs.Keys.{key_before}
use Rattle.layer.specs.Object.{count, field_name, checks}
use Rattle.layer.proofs.Laws.{names_rise}
use Rattle.lookup.specs.Steps.{AllAbove}
use Rattle.lookup.proofs.FromAbove.{between}
use Rattle.spots.specs.Steps.{Probed}
use Rattle.spots.specs.Steps.Probed.{taken, kept}

module _ (d o q : List ℕ) where
  pub fewer_above : (from to : ℕ) → from ≤ to → AllAbove d o q from → AllAbove d o q to
  fewer_above from to p above k u = above k (omega arith)

  -- a probe in the middle of so many leaves the larger half
  pub narrowed : checks d o ≡ pass → {key : ℕ} → KeyOf q key → (at size half r : ℕ) → half ≤ size - half → half < size → at + size ≤ count o
      → AllAbove d o q (at + size) → Probed (field_name d o (at + half)) key at half r → (r + (size - half) ≤ count o) × AllAbove d o q (r + (size - half))
  narrowed passes is at size half r u v w above taken = (omega arith, fewer_above (at + size) (at + half + (size - half)) (omega arith) above)
  narrowed passes is at size half r u v w above (kept other p) =
      let rising = names_rise d o passes in
      let inside : at + half < count o = omega arith in
      let b = between_greater (field_name d o) q (count o) rising 0 (at + size) (at + half) (between d o q (at + size) above) inside (compare_of_law (greater (key_before is other p))) in
      (omega arith, fewer_above (at + half) (at + (size - half)) (omega arith) b.above)

  -- the last field that may be the query's is below it, or it is the query's
  module _ (passes : checks d o ≡ pass) (at : ℕ) (inside : at < count o) (above : AllAbove d o q (at + 1)) where
    pub not_there : Before (field_name d o at) q → seek (field_name d o) q (count o) ≡ nowhere
    not_there p =
        let rising = names_rise d o passes in
        let b = between_less (field_name d o) q (count o) rising 0 (at + 1) at (between d o q (at + 1) above) inside (compare_of_law (less p)) in
        between_none (field_name d o) q (count o) rising (at + 1) (at + 1) b (omega arith)

    pub is_there : field_name d o at ≡ q → seek (field_name d o) q (count o) ≡ here at
    is_there e = between_equal (field_name d o) q (count o) (names_rise d o passes) 0 (at + 1) at (between d o q (at + 1) above) inside (compare_of_law (equal e))
