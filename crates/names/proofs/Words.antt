-- Numbers whose highest byte comes first are in the order of their bytes. Assumes nothing.
use mathlib.Core.Path.{◌≡◌, refl, sym, ap, ◌∙◌}
use mathlib.Core.Bool.{Bool, true, false, cond}
use mathlib.Core.List.{List}
use Prim.Native.Nat.{ℕ, zero, suc, ◌+◌, ◌*◌, ◌≤◌, ◌<◌, min}
use native.Mathlib.Decide.{dec_lt}
use native.Mathlib.Nat.{add-zero}
use native.Mathlib.Omega.{arith}
use borrow.Author.Tests.{lt-ltb, le-ltb}
use lib.Dec.{ltb}
use lib.ListN.{length, drop, get_or}
use lib.Seq.{drop-cons}
use Rattle.eights.specs.Steps.{be, Alike, Decides}
use Rattle.eights.proofs.Words.{Octets, be_alike}
use Rattle.std.specs.Ordering.{nat_cmp, ordering_then}
use Rattle.std.specs.declared.cmp.Ordering.{Ordering}
use Rattle.std.specs.declared.cmp.Ordering.TheVariants.{Less, Equal, Greater}
use Rattle.std.specs.Cmp.{nat_cmp_is}
use Rattle.names.specs.Order.{compare_of, is_less}
use Rattle.names.specs.Steps.{by, order_of}
use Rattle.names.proofs.Laws.{compare_end, compare_short, compare_long}

-- the order of two numbers, by cases
module _ (x y : ℕ) (o : Ordering) where
  pub by_less : x < y → by x y o ≡ Less
  unfolding by
  by_less p = rw (lt-ltb x y p)

  pub by_greater : y < x → by x y o ≡ Greater
  unfolding by
  by_greater p = rw (le-ltb x y (omega arith), lt-ltb y x p)

  pub by_same : x ≡ y → by x y o ≡ o
  unfolding by
  by_same e = rw (le-ltb x y (omega arith), le-ltb y x (omega arith))

pub by_apart : (x y : ℕ) (o : Ordering) → (x ≡ y → ⊥) → by x y o ≡ order_of x y
unfolding by
by_apart x y o n = go (dec_lt x y)
  where
    go : Dec (x < y) → by x y o ≡ order_of x y
    go (yes u) = rw (lt-ltb x y u)
    go (no u) = rw (lt-ltb y x (omega arith))

-- `cmp` answers the order of two numbers, and `then` goes on where they are the same
pub by_cmp : (x y : ℕ) → nat_cmp x y ≡ order_of x y
by_cmp x y = go (dec_lt x y) (dec_lt y x)
  where
    go : Dec (x < y) → Dec (y < x) → nat_cmp x y ≡ order_of x y
    go (yes u) v = sym (nat_cmp_is x y Less u) ∙ sym (by_less x y _ u)
    go (no u) (yes v) = sym (nat_cmp_is x y Greater v) ∙ sym (by_greater x y _ v)
    go (no u) (no v) = sym (nat_cmp_is x y Equal (omega arith)) ∙ sym (by_same x y _ (omega arith))

pub by_then : (x y : ℕ) (o c : Ordering) → ((x ≡ y → ⊥) → c ≡ order_of x y) → (x ≡ y → c ≡ o) → ordering_then (nat_cmp x y) o ≡ c
by_then x y o c apart same = rw (by_cmp x y) (go (dec_lt x y) (dec_lt y x))
  where
    go : Dec (x < y) → Dec (y < x) → ordering_then (order_of x y) o ≡ c
    go (yes u) v = rw (by_less x y Equal u) (sym (apart (λ e. omega arith) ∙ by_less x y Equal u))
    go (no u) (yes v) = rw (by_greater x y Equal v) (sym (apart (λ e. omega arith) ∙ by_greater x y Equal v))
    go (no u) (no v) = rw (by_same x y Equal (omega arith)) (sym (same (omega arith)))

-- a byte more of each: numbers and the bytes after them, or the longer numbers
by_more : (x y a b : ℕ) (o : Ordering) → a < 256 → b < 256 → by x y (by a b o) ≡ by (256 * x + a) (256 * y + b) o
by_more x y a b o p q = go (dec_lt x y) (dec_lt y x) (dec_lt a b) (dec_lt b a)
  where
    go : Dec (x < y) → Dec (y < x) → Dec (a < b) → Dec (b < a) → by x y (by a b o) ≡ by (256 * x + a) (256 * y + b) o
    go (yes u) v w z = by_less x y _ u ∙ sym (by_less _ _ o (omega arith))
    go (no u) (yes v) w z = by_greater x y _ v ∙ sym (by_greater _ _ o (omega arith))
    go (no u) (no v) (yes w) z = by_same x y _ (omega arith) ∙ by_less a b o w ∙ sym (by_less _ _ o (omega arith))
    go (no u) (no v) (no w) (yes z) = by_same x y _ (omega arith) ∙ by_greater a b o z ∙ sym (by_greater _ _ o (omega arith))
    go (no u) (no v) (no w) (no z) = by_same x y _ (omega arith) ∙ by_same a b o (omega arith) ∙ sym (by_same _ _ o (omega arith))

-- whether it is less, by the numbers
pub below_by : {o : Ordering} (x y : ℕ) → o ≡ order_of x y → ltb x y ≡ is_less o
unfolding by
below_by x y e = rw e (sym (go (ltb x y) (ltb y x)))
  where
    go : (b c : Bool) → is_less (cond b Less (cond c Greater Equal)) ≡ b
    go true c = refl
    go false true = refl
    go false false = refl

-- TWO NAMES: what is left of them compares by the next byte and what comes after it
module _ (s t : List ℕ) where
  pub compare_first : (i : ℕ) → i < length s → i < length t
      → compare_of (drop i s) (drop i t) ≡ by (get_or s i 0) (get_or t i 0) (compare_of (drop (suc i) s) (drop (suc i) t))
  unfolding compare_of by
  compare_first i p q = rw (drop-cons s i 0 p, drop-cons t i 0 q)

  -- as the whole does, after bytes that are the same
  pub alike_rest : (n : ℕ) → n ≤ length s → n ≤ length t → Alike s t n → compare_of s t ≡ compare_of (drop n s) (drop n t)
  alike_rest zero p q a = refl
  alike_rest (suc n) p q a =
      alike_rest n (omega arith) (omega arith) (λ k h. a k (omega arith))
      ∙ compare_first n (omega arith) (omega arith) ∙ by_same _ _ _ (a n (omega arith))

  -- and where one ends, by the lengths
  pub compare_lengths : (n : ℕ) → n ≡ min (length s) (length t) → compare_of (drop n s) (drop n t) ≡ order_of (length s) (length t)
  compare_lengths n e = go (dec_lt (length s) (length t)) (dec_lt (length t) (length s))
    where
      go : Dec (length s < length t) → Dec (length t < length s) → compare_of (drop n s) (drop n t) ≡ order_of (length s) (length t)
      go (yes u) v = compare_short s t n (omega arith) (omega arith) ∙ sym (by_less _ _ Equal u)
      go (no u) (yes v) = compare_long s t n (omega arith) (omega arith) ∙ sym (by_greater _ _ Equal v)
      go (no u) (no v) = compare_end s t n (omega arith) (omega arith) ∙ sym (by_same _ _ Equal (omega arith))

  module _ (f : Octets s) (g : Octets t) where
    module _ (i : ℕ) where
      -- THE LAW: the numbers, the highest byte first, are in the order of the bytes
      be_by : (n : ℕ) → i + n ≤ length s → i + n ≤ length t
          → compare_of (drop i s) (drop i t) ≡ by (be s i n) (be t i n) (compare_of (drop (i + n) s) (drop (i + n) t))
      unfolding be
      be_by zero p q = rw (add-zero i) (sym (by_same 0 0 _ refl))
      be_by (suc n) p q =
          let z : i + suc n ≡ suc (i + n) = omega arith in
          rw z (be_by n (omega arith) (omega arith)
          ∙ ap (by (be s i n) (be t i n)) (compare_first (i + n) (omega arith) (omega arith))
          ∙ by_more (be s i n) (be t i n) _ _ _ (omega (arith, f (i + n))) (omega (arith, g (i + n))))

      -- so words that differ decide, and after words that are the same at the end of what is shared, the lengths do
      pub word_decides : (p q : ℕ) → p ≡ be s i 8 → q ≡ be t i 8 → (p ≡ q → ⊥) → Alike s t i → i + 8 ≤ length s → i + 8 ≤ length t
          → compare_of s t ≡ order_of p q
      word_decides p q e h n a u v = rw (e, h) (alike_rest i (omega arith) (omega arith) a ∙ be_by 8 u v ∙ by_apart _ _ _ (λ z. n (omega arith)))

      pub end_decides : (p q : ℕ) → p ≡ length s → q ≡ length t → (shared : ℕ) → shared ≡ min p q → Decides s t shared i → be s i 8 ≡ be t i 8
          → compare_of s t ≡ order_of p q
      end_decides p q e h shared m d w =
          let a = be_alike s t f g i 8 w d.alike in
          let z : i + 8 ≡ min (length s) (length t) = omega (arith, d.last a) in
          rw (e, h) (alike_rest (i + 8) (omega arith) (omega arith) a ∙ compare_lengths (i + 8) z)
