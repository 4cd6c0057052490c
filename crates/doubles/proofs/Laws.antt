-- What the loops that look for a double go by. Assumes nothing.
use native.Mathlib.Decide.{ℕ_discrete}
use Rattle.rules.proofs.Prelude.{◌≡◌, refl, List, ℕ, suc, ◌+◌, ◌≤◌, ◌<◌, arith, length, Bool, true, false}
use Rattle.std.specs.Ordering.{is_eq}
use Rattle.std.specs.declared.cmp.Ordering.{Ordering}
use Rattle.std.specs.declared.cmp.Ordering.TheVariants.{Less, Equal, Greater}
use Rattle.names.specs.Order.{compare_of}
use Rattle.names.proofs.Laws.{compare_refl, compare_equal}
use Rattle.sets.specs.Sets.{Distinct, Numbered, collect}
use Rattle.sets.proofs.Laws.{collect_count}
use Rattle.sets.proofs.Distinct.{as_many, first_double}
use Rattle.doubles.specs.Doubles.{Double}

-- SEARCHED: none of the first i numbers has the name of k

abbrev pub Unlike : (ℕ → List ℕ) → ℕ → ℕ → Type 0
Unlike name k i = (p : ℕ) → p < i → name p ≡ name k → ⊥

-- names that compare as equal are, and others are not
pub told_equal : (s t : List ℕ) → is_eq (compare_of s t) ≡ true → s ≡ t
told_equal s t e = compare_equal s t (go (compare_of s t) e)
  where
    go : (o : Ordering) → is_eq o ≡ true → o ≡ Equal
    go Less e = let z : ◌≡◌ {A = ℕ} 0 1 = cc in absurd (omega arith)
    go Equal e = refl
    go Greater e = let z : ◌≡◌ {A = ℕ} 0 1 = cc in absurd (omega arith)

pub told_other : (s t : List ℕ) → is_eq (compare_of s t) ≡ false → s ≡ t → ⊥
told_other s t e p = let w : ◌≡◌ {A = Bool} true false = rw (p, compare_refl t) at e in let z : ◌≡◌ {A = ℕ} 0 1 = cc in omega arith

-- one number more whose name is new
pub distinct_none : (name : ℕ → List ℕ) → Distinct name 0 0
distinct_none name i j a b c e = omega arith

pub distinct_more : (name : ℕ → List ℕ) (k : ℕ) → Distinct name 0 k → (Numbered name 0 k (name k) → ⊥) → Distinct name 0 (k + 1)
distinct_more name k d n i j a b c e = go (ℕ_discrete j k)
  where
    go : Dec (j ≡ k) → ⊥
    go (yes z) = n record { number = i; low = a; high = omega arith; name_is = rw z at e }
    go (no z) = d i j a b (omega arith) e

-- HALVED: up to `low` as many names as numbers, one further fewer
pub halved : (name : ℕ → List ℕ) (n low high : ℕ) → high ≤ n → low < high → high ≤ low + 1 → length (collect name 0 low) ≡ low → length (collect name 0 high) < high
    → Double name n low
halved name n low high p q r e f =
    let z : high ≡ suc low = omega arith in
    record { inside = omega arith; is_first = as_many name 0 low e; earlier = first_double name low e (rw z at f) }

pub collect_none : (name : ℕ → List ℕ) → length (collect name 0 0) ≡ 0
unfolding collect
collect_none name = refl

-- where names and numbers are not as many, they are fewer
pub fewer : (name : ℕ → List ℕ) {m n all : ℕ} → n ≡ all → length (collect name 0 all) ≡ m → (m ≡ n → ⊥) → length (collect name 0 n) < n
fewer name {m} {n} {all} e f g = rw e (omega (arith, e, f, g, collect_count name 0 all))
