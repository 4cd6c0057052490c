-- The order of names is total and strict, and `compare_of` decides it. Assumes nothing.
use mathlib.Core.Path.{◌≡◌, refl, sym, ap, ap₂, ◌∙◌}
use mathlib.Core.Bool.{Bool, true, false, cond}
use mathlib.Core.List.{List, [], ◌∷◌}
use Prim.Native.Nat.{ℕ, ◌≤◌, ◌<◌}
use native.Mathlib.Omega.{arith}
use borrow.Author.Tests.{ltb-true, ltb-false}
use lib.Dec.{ltb}
use lib.ListN.{length, drop, drop_of_length-le}
use lib.Seq.{drop-cons}
use Rattle.std.specs.declared.cmp.Ordering.{Ordering}
use Rattle.std.specs.declared.cmp.Ordering.TheVariants.{Less, Equal, Greater}
use Rattle.names.specs.Order.{Before, Says, compare_of, is_less, below}
use Rattle.names.specs.Order.Before.{prefix, smaller, onward}
use Rattle.names.specs.Order.Says.{less, equal, greater}

says_cons : (a b : ℕ) (s t : List ℕ) (o : Ordering) → a ≡ b → Says s t o → Says (a ∷ s) (b ∷ t) o
says_cons a b s t Less e (less r) = less (onward e r)
says_cons a b s t Equal e (equal p) = equal (ap₂ ◌∷◌ e p)
says_cons a b s t Greater e (greater r) = greater (onward (sym e) r)

-- THE LAW: `compare_of` says which of the three holds
pub compare_says : (s t : List ℕ) → Says s t (compare_of s t)
unfolding compare_of
compare_says [] [] = equal refl
compare_says [] (b ∷ t) = less prefix
compare_says (a ∷ s) [] = greater prefix
compare_says (a ∷ s) (b ∷ t) = go (ltb a b) refl (ltb b a) refl (compare_says s t)
  where
    go : (u : Bool) → ltb a b ≡ u → (v : Bool) → ltb b a ≡ v → Says s t (compare_of s t) → Says (a ∷ s) (b ∷ t) (cond u Less (cond v Greater (compare_of s t)))
    go true e v f r = less (smaller (ltb-true a b e))
    go false e true f r = greater (smaller (ltb-true b a f))
    go false e false f r = says_cons a b s t (compare_of s t) (omega (arith, ltb-false a b e, ltb-false b a f)) r

-- `Before` is a strict order
pub before_trans : {s t u : List ℕ} → Before s t → Before t u → Before s u
before_trans prefix (smaller q) = prefix
before_trans prefix (onward q y) = prefix
before_trans (smaller {a = a} p) (smaller {b = c} q) = smaller {a = a} {b = c} (omega arith)
before_trans (smaller {a = a} p) (onward {b = c} q y) = smaller {a = a} {b = c} (omega arith)
before_trans (onward {a = a} p x) (smaller {b = c} q) = smaller {a = a} {b = c} (omega arith)
before_trans (onward p x) (onward q y) = onward (p ∙ q) (before_trans x y)

pub before_ne : {s t : List ℕ} → Before s t → s ≡ t → ⊥
before_ne prefix e = let z : ◌≡◌ {A = ℕ} 0 1 = cc in omega arith
before_ne (smaller {a = a} {b = b} p) e = let z : a ≡ b = cc in omega arith
before_ne (onward {s = s} {t = t} p r) e = let z : s ≡ t = cc in before_ne r z

pub before_asym : {s t : List ℕ} → Before s t → Before t s → ⊥
before_asym p q = before_ne (before_trans p q) refl

-- so no other answer is right
pub says_same : {s t : List ℕ} {o o' : Ordering} → Says s t o → Says s t o' → o ≡ o'
says_same (less p) (less q) = refl
says_same (less p) (equal q) = absurd (before_ne p q)
says_same (less p) (greater q) = absurd (before_asym p q)
says_same (equal p) (less q) = absurd (before_ne q p)
says_same (equal p) (equal q) = refl
says_same (equal p) (greater q) = absurd (before_ne q (sym p))
says_same (greater p) (less q) = absurd (before_asym p q)
says_same (greater p) (equal q) = absurd (before_ne p (sym q))
says_same (greater p) (greater q) = refl

pub compare_of_law : {s t : List ℕ} {o : Ordering} → Says s t o → compare_of s t ≡ o
compare_of_law {s} {t} r = says_same (compare_says s t) r

pub says_of : (s t : List ℕ) (o : Ordering) → compare_of s t ≡ o → Says s t o
says_of s t o e = rw e at (compare_says s t)

-- a total order: the laws, in the words of `compare_of`
pub compare_refl : (s : List ℕ) → compare_of s s ≡ Equal
compare_refl s = compare_of_law (equal refl)

pub compare_equal : (s t : List ℕ) → compare_of s t ≡ Equal → s ≡ t
compare_equal s t e = elim (says_of s t Equal e) [ equal p ↦ p ]

unfoldable pub flip : Ordering → Ordering
flip Less = Greater
flip Equal = Equal
flip Greater = Less

says_flip : {s t : List ℕ} {o : Ordering} → Says s t o → Says t s (flip o)
unfolding flip
says_flip (less p) = greater p
says_flip (equal p) = equal (sym p)
says_flip (greater p) = less p

pub compare_flip : (s t : List ℕ) → compare_of t s ≡ flip (compare_of s t)
compare_flip s t = compare_of_law (says_flip (compare_says s t))

pub less_before : (s t : List ℕ) → compare_of s t ≡ Less → Before s t
less_before s t e = elim (says_of s t Less e) [ less p ↦ p ]

pub greater_before : (s t : List ℕ) → compare_of s t ≡ Greater → Before t s
greater_before s t e = elim (says_of s t Greater e) [ greater p ↦ p ]

pub compare_trans : (s t u : List ℕ) → compare_of s t ≡ Less → compare_of t u ≡ Less → compare_of s u ≡ Less
compare_trans s t u p q = compare_of_law (less (before_trans (less_before s t p) (less_before t u q)))

-- `below` decides `Before`
pub below_before : (s t : List ℕ) → below s t ≡ true → Before s t
unfolding below
below_before s t e = go (compare_of s t) (compare_says s t) e
  where
    go : (o : Ordering) → Says s t o → is_less o ≡ true → Before s t
    go Less (less p) e = p
    go Equal (equal p) e = let z : ◌≡◌ {A = ℕ} 0 1 = cc in absurd (omega arith)
    go Greater (greater p) e = let z : ◌≡◌ {A = ℕ} 0 1 = cc in absurd (omega arith)

pub before_below : {s t : List ℕ} → Before s t → below s t ≡ true
unfolding below
before_below p = ap is_less (compare_of_law (less p))

pub not_below : (s t : List ℕ) → (Before s t → ⊥) → below s t ≡ false
not_below s t n = go (below s t) refl
  where
    go : (b : Bool) → below s t ≡ b → below s t ≡ false
    go true e = absurd (n (below_before s t e))
    go false e = e

-- What a loop goes by: both lists from the same place.
module _ (s t : List ℕ) (i : ℕ) where
  pub compare_end : length s ≤ i → length t ≤ i → compare_of (drop i s) (drop i t) ≡ Equal
  unfolding compare_of
  compare_end p q = rw (drop_of_length-le s p, drop_of_length-le t q)

  pub compare_short : length s ≤ i → i < length t → compare_of (drop i s) (drop i t) ≡ Less
  unfolding compare_of
  compare_short p q = rw (drop_of_length-le s p, drop-cons t i 0 q)

  pub compare_long : i < length s → length t ≤ i → compare_of (drop i s) (drop i t) ≡ Greater
  unfolding compare_of
  compare_long p q = rw (drop-cons s i 0 p, drop_of_length-le t q)
