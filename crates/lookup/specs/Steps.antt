-- What the steps of the lookup answer each other, in the words of ByName.antt. Assumes nothing.
use Rattle.std.specs.Prelude.{◌≡◌, List, ℕ, ◌≤◌, ◌<◌, length, Option, Some, None}
use Rattle.part.specs.declared.Span.{Span}
use Rattle.names.specs.Order.{Before}
use Rattle.layer.specs.Object.{count, field_name}
use Rattle.names.specs.Search.{Sought}
use Rattle.names.specs.Search.Sought.{nowhere, here}
use Rattle.lookup.specs.ByName.{lookup, start_of, end_of}

abbrev pub sought_of : Option ℕ → Sought
sought_of None = nowhere
sought_of (Some k) = here k

-- where the child lies in the object
pub record PlaceOf (d o q : List ℕ) (p : Span) : Type 0 where
  pub start_is : p.start ≡ start_of (lookup d o q)
  pub end_is : p.end ≡ end_of (lookup d o q)
  pub rises : p.start ≤ p.end
  pub inside : p.end ≤ length o

-- all fields from `from` on come after the query
abbrev pub AllAbove : (d o q : List ℕ) → ℕ → Type 0
AllAbove d o q from = (k : ℕ) → from ≤ k → k < count o → Before q (field_name d o k)
