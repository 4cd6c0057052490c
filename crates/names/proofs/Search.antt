-- Laws of the search: `seek` finds what is there and nothing else, and among names in order halving finds the same. Assumes nothing.
use mathlib.Core.Path.{◌≡◌, refl, sym, ap, ◌∙◌}
use mathlib.Core.Bool.{Bool, true, false, cond}
use mathlib.Core.List.{List}
use Prim.Native.Nat.{ℕ, zero, suc, ◌+◌, ◌-◌, ◌≤◌, ◌<◌}
use native.Mathlib.Decide.{dec_lt, ℕ_discrete}
use native.Mathlib.Omega.{arith}
use Rattle.std.specs.declared.cmp.Ordering.{Ordering}
use Rattle.std.specs.declared.cmp.Ordering.TheVariants.{Less, Equal, Greater}
use Rattle.names.specs.Order.{Before, compare_of}
use Rattle.names.specs.Search.{is_equal, same, seek, Rising}
use Rattle.names.specs.Search.Sought.{nowhere, here}
use Rattle.names.proofs.Laws.{compare_refl, compare_equal, less_before, greater_before, before_trans, before_ne}

-- `same` decides equality
pub same_is : (s t : List ℕ) → s ≡ t → same s t ≡ true
unfolding same
same_is s t e = rw e (ap is_equal (compare_refl t))

pub is_same : (s t : List ℕ) → same s t ≡ true → s ≡ t
unfolding same
is_same s t e = compare_equal s t (go (compare_of s t) e)
  where
    go : (o : Ordering) → is_equal o ≡ true → o ≡ Equal
    go Less e = let z : ◌≡◌ {A = ℕ} 0 1 = cc in absurd (omega arith)
    go Equal e = refl
    go Greater e = let z : ◌≡◌ {A = ℕ} 0 1 = cc in absurd (omega arith)

pub not_same : (s t : List ℕ) → (s ≡ t → ⊥) → same s t ≡ false
not_same s t n = go (same s t) refl
  where
    go : (b : Bool) → same s t ≡ b → same s t ≡ false
    go true e = absurd (n (is_same s t e))
    go false e = e

-- equal names up to n: the same is found
pub seek_same : (f g : ℕ → List ℕ) (q : List ℕ) (n : ℕ) → ((k : ℕ) → k < n → f k ≡ g k) → seek f q n ≡ seek g q n
unfolding seek
seek_same f g q zero h = refl
seek_same f g q (suc n) h = rw (seek_same f g q n (λ k p. h k (omega arith)), h n (omega arith))

module _ (name : ℕ → List ℕ) (query : List ℕ) where
  -- what `seek` answers, it says: here k, k is below n and its name is the query; nowhere, no name is
  pub seek_at : (n k : ℕ) → seek name query n ≡ here k → (k < n) × (name k ≡ query)
  unfolding seek
  seek_at zero k e = let z : ◌≡◌ {A = ℕ} 0 1 = cc in absurd (omega arith)
  seek_at (suc n) k e = go (same (name n) query) refl (seek_at n k) e
    where
      go : (b : Bool) → same (name n) query ≡ b → (seek name query n ≡ here k → (k < n) × (name k ≡ query))
          → cond b (here n) (seek name query n) ≡ here k → (k < suc n) × (name k ≡ query)
      go true f r e = let z : n ≡ k = cc in (omega arith, rw (← z) (is_same (name n) query f))
      go false f r e = let w = r e in (omega (arith, w.0), w.1)

  pub seek_nowhere : (n : ℕ) → seek name query n ≡ nowhere → (k : ℕ) → k < n → name k ≡ query → ⊥
  unfolding seek
  seek_nowhere zero e k p h = omega arith
  seek_nowhere (suc n) e k p h = go (same (name n) query) refl (λ f q. seek_nowhere n f k q h) e (ℕ_discrete k n)
    where
      go : (b : Bool) → same (name n) query ≡ b → (seek name query n ≡ nowhere → k < n → ⊥) → cond b (here n) (seek name query n) ≡ nowhere → Dec (k ≡ n) → ⊥
      go true f r e d = let z : ◌≡◌ {A = ℕ} 0 1 = cc in omega arith
      go false f r e (yes q) = let z : ◌≡◌ {A = Bool} false true = sym f ∙ same_is (name n) query (rw (← q) h) in let y : ◌≡◌ {A = ℕ} 0 1 = cc in omega arith
      go false f r e (no q) = r e (omega arith)

  -- and it answers what is so: the last of equal names, or nowhere
  pub seek_last : (n k : ℕ) → k < n → name k ≡ query → ((j : ℕ) → k < j → j < n → name j ≡ query → ⊥) → seek name query n ≡ here k
  unfolding seek
  seek_last zero k p h only = absurd (omega arith)
  seek_last (suc n) k p h only =
      go (ℕ_discrete k n) (λ q. seek_last n k q h (λ j a b. only j a (omega arith)))
    where
      go : Dec (k ≡ n) → (k < n → seek name query n ≡ here k) → cond (same (name n) query) (here n) (seek name query n) ≡ here k
      go (yes q) r = rw (same_is (name n) query (rw (← q) h)) (ap here (sym q))
      go (no q) r = rw (not_same (name n) query (only n (omega arith) (omega arith))) (r (omega arith))

  pub seek_none : (n : ℕ) → ((k : ℕ) → k < n → name k ≡ query → ⊥) → seek name query n ≡ nowhere
  unfolding seek
  seek_none zero no_one = refl
  seek_none (suc n) no_one =
      rw (not_same (name n) query (no_one n (omega arith))) (seek_none n (λ k p. no_one k (omega arith)))

  -- HALVING, among names in order: all names below `low` come before the query, and it comes before all from `high` on.
  pub record Between (n low high : ℕ) : Type 0 where
    pub below : (k : ℕ) → k < low → Before (name k) query
    pub above : (k : ℕ) → high ≤ k → k < n → Before query (name k)

  pub between_all : (n : ℕ) → Between n 0 n
  between_all n = record { below = λ k p. absurd (omega arith); above = λ k p q. absurd (omega arith) }

  module _ (n : ℕ) (rising : Rising name n) where
    -- once: never two fields of one name
    pub once : (i j : ℕ) → i < n → j < n → name i ≡ query → name j ≡ query → i ≡ j
    once i j p q a b = go (dec_lt i j) (dec_lt j i)
      where
        go : Dec (i < j) → Dec (j < i) → i ≡ j
        go (yes w) d = absurd (before_ne (rising i j w q) (a ∙ sym b))
        go (no v) (yes w) = absurd (before_ne (rising j i w p) (b ∙ sym a))
        go (no v) (no w) = omega arith

    -- the middle name tells which half the query is in
    module _ (low high mid : ℕ) (b : Between n low high) (inside : mid < n) where
      pub between_less : compare_of (name mid) query ≡ Less → Between n (mid + 1) high
      between_less e = record { below = λ k p. go k p (dec_lt k mid); above = b.above }
        where
          go : (k : ℕ) → k < mid + 1 → Dec (k < mid) → Before (name k) query
          go k p (yes q) = before_trans (rising k mid q inside) (less_before _ _ e)
          go k p (no q) = let z : k ≡ mid = omega arith in rw z (less_before _ _ e)

      pub between_greater : compare_of (name mid) query ≡ Greater → Between n low mid
      between_greater e = record { below = b.below; above = λ k p q. go k p q (dec_lt mid k) }
        where
          go : (k : ℕ) → mid ≤ k → k < n → Dec (mid < k) → Before query (name k)
          go k p q (yes w) = before_trans (greater_before _ _ e) (rising mid k w q)
          go k p q (no w) = let z : k ≡ mid = omega arith in rw z (greater_before _ _ e)

      pub between_equal : compare_of (name mid) query ≡ Equal → seek name query n ≡ here mid
      between_equal e =
          let h = compare_equal (name mid) query e in
          seek_last n mid inside h (λ j p q g. before_ne (rising mid j p q) (h ∙ sym g))

    -- and where the halves meet, it is nowhere
    pub between_none : (low high : ℕ) → Between n low high → high ≤ low → seek name query n ≡ nowhere
    between_none low high b p = seek_none n (λ k q h. go k q h (dec_lt k low))
      where
        go : (k : ℕ) → k < n → name k ≡ query → Dec (k < low) → ⊥
        go k q h (yes w) = before_ne (b.below k w) h
        go k q h (no w) = before_ne (b.above k (omega arith) q) (sym h)

-- neighbours in order, all in order
pub rising_all : (name : ℕ → List ℕ) (n : ℕ) → ((k : ℕ) → 0 < k → k < n → Before (name (k - 1)) (name k)) → Rising name n
rising_all name n next i zero p q = absurd (omega arith)
rising_all name n next i (suc j) p q = go (dec_lt i j) (λ w. rising_all name n next i j w (omega arith))
  where
    last : Before (name j) (name (suc j))
    last = let e : suc j - 1 ≡ j = omega arith in rw e at (next (suc j) (omega arith) q)

    go : Dec (i < j) → (i < j → Before (name i) (name j)) → Before (name i) (name (suc j))
    go (yes w) r = before_trans (r w) last
    go (no w) r = let z : i ≡ j = omega arith in rw z last
