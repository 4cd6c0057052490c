-- No name stands twice among some exactly when their list is as long as they are many. So the first double is found by counting: it is the
-- first number up to which, itself included, the list is shorter (document 02, k: 26). Assumes nothing.
use mathlib.Core.Path.{◌≡◌, refl, sym, ap, ◌∙◌}
use mathlib.Core.Logic.{◌⊎◌, ⊎_elim}
use mathlib.Core.Logic.◌⊎◌.{inl, inr}
use mathlib.Core.List.{List, [], ◌∷◌}
use Prim.Native.Nat.{ℕ, zero, suc, ◌+◌, ◌≤◌, ◌<◌}
use native.Mathlib.Decide.{dec_lt, ℕ_discrete}
use native.Mathlib.Omega.{arith}
use lib.ListN.{length}
use Rattle.std.specs.declared.cmp.Ordering.{Ordering}
use Rattle.std.specs.declared.cmp.Ordering.TheVariants.{Less, Equal, Greater}
use Rattle.names.specs.Order.{Before, Says, compare_of}
use Rattle.names.specs.Order.Says.{less, equal, greater}
use Rattle.names.proofs.Laws.{compare_says, before_ne, before_asym}
use Rattle.sets.specs.Sets.{In, Above, Increasing, Distinct, placed, insert, collect, Numbered}
use Rattle.sets.proofs.Laws.{only_one, insert_in, in_insert, insert_increasing, collect_increasing, collect_in, in_collect, collect_count, collect_split, in_union, union_in}

-- ONE NAME MORE makes the list longer exactly where it is new

insert_new : (x : List ℕ) (ys : List (List ℕ)) → (In x ys → ⊥) → length (insert x ys) ≡ suc (length ys)
unfolding insert
insert_new x [] n = refl
insert_new x (y ∷ ys) n = go (compare_of x y) (compare_says x y) (insert_new x ys (λ h. n (inr h)))
  where
    go : (o : Ordering) → Says x y o → length (insert x ys) ≡ suc (length ys) → length (placed o x y ys (insert x ys)) ≡ suc (suc (length ys))
    go Less s r = refl
    go Equal (equal e) r = absurd (n (inl e))
    go Greater s r = ap suc r

insert_old : (x : List ℕ) (ys : List (List ℕ)) → Increasing ys → In x ys → insert x ys ≡ ys
insert_old x ys p h =
    only_one (insert x ys) ys (insert_increasing x ys p) p (record {
      to = λ z k. old z (in_insert x z ys k);
      from = λ z k. insert_in x z ys (inr k);
    })
  where
    old : (z : List ℕ) → (z ≡ x) ⊎ In z ys → In z ys
    old z (inl e) = rw e h
    old z (inr k) = k

-- NO NAME TWICE

pub all_new : (name : ℕ → List ℕ) (from n : ℕ) → Distinct name from n → length (collect name from n) ≡ n
unfolding collect
all_new name from zero d = refl
all_new name from (suc n) d =
    insert_new (name from) (collect name (suc from) n) fresh ∙ ap suc (all_new name (suc from) n (λ i j p q r. d i j (omega arith) q (omega arith)))
  where
    fresh : In (name from) (collect name (suc from) n) → ⊥
    fresh h = let w = in_collect name (suc from) n (name from) h in d from w.number (omega arith) (omega (arith, w.low)) (omega (arith, w.high)) (sym w.name_is)

pub as_many : (name : ℕ → List ℕ) (from n : ℕ) → length (collect name from n) ≡ n → Distinct name from n
unfolding collect
as_many name from zero e i j p q r h = omega arith
as_many name from (suc n) e i j p q r h = go (ℕ_discrete from i) (λ l z. as_many name (suc from) n l i j z q (omega arith) h)
  where
    fresh : In (name from) (collect name (suc from) n) → ⊥
    fresh k =
        omega (arith, e, ap length (insert_old (name from) (collect name (suc from) n) (collect_increasing name (suc from) n) k), collect_count name (suc from) n)

    longer : length (collect name (suc from) n) ≡ n
    longer = omega (arith, e, insert_new (name from) (collect name (suc from) n) fresh)

    go : Dec (from ≡ i) → (length (collect name (suc from) n) ≡ n → suc from ≤ i → ⊥) → ⊥
    go (yes z) next =
        let same : name from ≡ name j = ap name z ∙ h in
        fresh (rw same (collect_in name (suc from) n j (omega arith) (omega arith)))
    go (no z) next = next longer (omega arith)

-- so the counts fall behind once and for all
pub fewer : (name : ℕ → List ℕ) (m n : ℕ) → m ≤ n → length (collect name 0 n) ≡ n → length (collect name 0 m) ≡ m
fewer name m n p e = all_new name 0 m (λ i j a b c. as_many name 0 n e i j a b (omega arith))

in_or_not : (x : List ℕ) (ys : List (List ℕ)) → In x ys ⊎ (In x ys → ⊥)
in_or_not x [] = inr (λ h. h)
in_or_not x (y ∷ ys) = go (compare_of x y) (compare_says x y) (in_or_not x ys)
  where
    go : (o : Ordering) → Says x y o → In x ys ⊎ (In x ys → ⊥) → In x (y ∷ ys) ⊎ (In x (y ∷ ys) → ⊥)
    go o s (inl h) = inl (inr h)
    go Less (less b) (inr n) = inr (⊎_elim (λ e. before_ne b e) n)
    go Equal (equal e) (inr n) = inl (inl e)
    go Greater (greater b) (inr n) = inr (⊎_elim (λ e. before_ne b (sym e)) n)

-- THE FIRST DOUBLE, by counting: none up to k, and one at k
pub first_double : (name : ℕ → List ℕ) (k : ℕ) → length (collect name 0 k) ≡ k → length (collect name 0 (suc k)) < suc k → Numbered name 0 k (name k)
first_double name k e f = go (in_or_not (name k) (collect name 0 k))
  where
    go : In (name k) (collect name 0 k) ⊎ (In (name k) (collect name 0 k) → ⊥) → Numbered name 0 k (name k)
    go (inl h) = in_collect name 0 k (name k) h
    go (inr n) = absurd (omega (arith, f, all_new name 0 (suc k) (λ i j p q r h. either i j q r h (ℕ_discrete j k))))
      where
        either : (i j : ℕ) → i < j → j < 0 + suc k → name i ≡ name j → Dec (j ≡ k) → ⊥
        either i j q r h (yes z) = let same : name k ≡ name i = ap name (sym z) ∙ sym h in n (rw same (collect_in name 0 k i (omega arith) (omega arith)))
        either i j q r h (no z) = as_many name 0 k e i j (omega arith) q (omega arith) h
