-- What the steps of a comparison promise of two numbers. Assumes nothing.
use Rattle.std.specs.Prelude.{cond, ℕ, ltb}
use Rattle.std.specs.declared.cmp.Ordering.{Ordering}
use Rattle.std.specs.declared.cmp.Ordering.TheVariants.{Less, Equal, Greater}

-- the order of two numbers; where they are the same, that of what comes after them
unfoldable pub by : ℕ → ℕ → Ordering → Ordering
by x y after = cond (ltb x y) Less (cond (ltb y x) Greater after)

abbrev pub order_of : ℕ → ℕ → Ordering
order_of x y = by x y Equal
