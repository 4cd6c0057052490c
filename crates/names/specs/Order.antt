-- The order of names (document 01, "Dictionary bytes": byte by byte, unsigned; a proper prefix is smaller). Assumes nothing.
use Rattle.std.specs.Prelude.{◌≡◌, Bool, cond, List, [], ◌∷◌, ℕ, ◌<◌, ltb}
use Rattle.std.specs.Ordering.{is_lt}
use Rattle.std.specs.declared.cmp.Ordering.{Ordering}
use Rattle.std.specs.declared.cmp.Ordering.TheVariants.{Less, Equal, Greater}

-- s comes before t: it is a proper prefix, or smaller at the first byte where they differ
pub data Before : List ℕ → List ℕ → Type 0 where
  prefix : {b : ℕ} {t : List ℕ} → Before [] (b ∷ t)
  smaller : {a b : ℕ} {s t : List ℕ} → a < b → Before (a ∷ s) (b ∷ t)
  onward : {a b : ℕ} {s t : List ℕ} → a ≡ b → Before s t → Before (a ∷ s) (b ∷ t)

-- what each answer says of two names
pub data Says (s t : List ℕ) : Ordering → Type 0 where
  less : Before s t → Says s t Less
  equal : s ≡ t → Says s t Equal
  greater : Before t s → Says s t Greater

-- the same as a function
unfoldable pub compare_of : List ℕ → List ℕ → Ordering
compare_of [] [] = Equal
compare_of [] (b ∷ t) = Less
compare_of (a ∷ s) [] = Greater
compare_of (a ∷ s) (b ∷ t) = cond (ltb a b) Less (cond (ltb b a) Greater (compare_of s t))

-- whether the first comes before the second
abbrev pub is_less : Ordering → Bool
is_less = is_lt

unfoldable pub below : List ℕ → List ℕ → Bool
below s t = is_less (compare_of s t)
