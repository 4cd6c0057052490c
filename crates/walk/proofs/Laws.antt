-- Laws of rows of items: the longest row is one, no longer one is, and decoding is unique. Assumes nothing.
use mathlib.Core.Path.{◌≡◌, refl, sym, ap}
use mathlib.Core.List.{List, [], ◌∷◌, ◌++◌, append_assoc}
use Prim.Native.Nat.{ℕ, zero, suc, ◌+◌, ◌≤◌, ◌<◌, ◌-◌, zero-le, suc-le-suc}
use native.Mathlib.Nat.{zero-add}
use native.Mathlib.Omega.{arith}
use lib.ListN.{length, take, drop, length-append, length-drop, take-append-drop}
use lib.Seq.{drop-drop, take-add, length-take-le, drop-append_seam, take-length}
use Rattle.walk.specs.Walk.{Items, Finds, pass, scan, up_to}
use Rattle.walk.specs.Walk.Items.{none, more}

pass_le : (n : ℕ) (f : ℕ → ℕ) (m : ℕ) → ((k : ℕ) → f k ≤ m) → pass n f ≤ suc m
pass_le zero f m h = zero-le
pass_le (suc n) f m h = suc-le-suc (h n)

module _ (step : List ℕ → ℕ) where
  scan_le : (s : List ℕ) (k : ℕ) → scan step k s ≤ length s
  scan_le [] k = zero-le
  scan_le (b ∷ s) zero = pass_le (step (b ∷ s)) (λ n. scan step n s) (length s) (scan_le s)
  scan_le (b ∷ s) (suc k) = suc-le-suc (scan_le s k)

  pub up_to_le : (s : List ℕ) → up_to step s ≤ length s
  unfolding up_to
  up_to_le s = scan_le s 0

  -- no item: the row ends
  pub up_to_stop : (s : List ℕ) → step s ≡ 0 → up_to step s ≡ 0
  unfolding up_to
  up_to_stop [] e = refl
  up_to_stop (b ∷ s) e = rw e

  scan_skip : (k : ℕ) (s : List ℕ) → k ≤ length s → scan step k s ≡ k + scan step 0 (drop k s)
  scan_skip zero s h = sym (zero-add (scan step 0 s))
  scan_skip (suc k) [] h = absurd (omega arith)
  scan_skip (suc k) (b ∷ s) h = omega (arith, scan_skip k s (omega arith))

  -- an item, and the row after it
  pub up_to_more : (n : ℕ) (s : List ℕ) → step s ≡ n → 0 < n → n ≤ length s → up_to step s ≡ n + up_to step (drop n s)
  unfolding up_to
  up_to_more zero s e p h = absurd (omega arith)
  up_to_more (suc n) [] e p h = absurd (omega arith)
  up_to_more (suc n) (b ∷ s) e p h = rw e (omega (arith, scan_skip n s (omega arith)))

  -- what a loop that goes from item to item keeps: the row up to i, and what comes after it
  pub up_to_go : (s : List ℕ) (i n j : ℕ) → up_to step s ≡ i + up_to step (drop i s) → i ≤ length s
      → step (drop i s) ≡ n → 0 < n → n ≤ length s - i → j ≡ i + n → up_to step s ≡ j + up_to step (drop j s)
  up_to_go s i n j e l q p h r =
      rw (r, ← drop-drop n i s)
      (omega (arith, e, up_to_more n (drop i s) q p (simp length-drop h)))

module _ (Item : List ℕ → Type 0) (step : List ℕ → ℕ) (F : Finds Item step) where
  -- a loop from item to item: no item ends it, and an item takes it further
  pub up_to_end : (s : List ℕ) (i : ℕ) → up_to step s ≡ i + up_to step (drop i s) → step (drop i s) ≡ 0 → i ≡ up_to step s
  up_to_end s i e q = omega (arith, e, up_to_stop step (drop i s) q)

  pub up_to_next : (s : List ℕ) (i n : ℕ) → i ≤ length s → up_to step s ≡ i + up_to step (drop i s) → n ≡ step (drop i s) → (n ≡ 0 → ⊥)
      → (i + n ≤ length s) × (up_to step s ≡ i + n + up_to step (drop (i + n) s))
  up_to_next s i n l e q p =
      let h : step (drop i s) ≤ length s - i = rw length-drop at (F.inside (drop i s)) in
      (omega (arith, h), up_to_go step s i n (i + n) e l (sym q) (omega arith) (omega (arith, h)) refl)

  -- the row that `up_to` measures is one
  sound_step : (s : List ℕ) → (0 < step s → Items Item (take (up_to step (drop (step s) s)) (drop (step s) s))) → (n : ℕ) → step s ≡ n → Items Item (take (up_to step s) s)
  sound_step s next zero e = rw (up_to_stop step s e) none
  sound_step s next (suc n) e =
      rw (up_to_more step (step s) s refl (omega arith) (F.inside s), take-add)
      (more (F.sound s (omega arith)) (next (omega arith)))

  sound_within : (m : ℕ) (s : List ℕ) → length s ≤ m → Items Item (take (up_to step s) s)
  sound_within zero s h = sound_step s (λ p. absurd (omega (arith, F.inside s))) (step s) refl
  sound_within (suc m) s h =
      sound_step s (λ p. sound_within m (drop (step s) s) (simp length-drop (omega arith))) (step s) refl

  pub up_to_sound : (s : List ℕ) → Items Item (take (up_to step s) s)
  up_to_sound s = sound_within (length s) s (omega arith)

  -- a row of items is passed whole, whatever follows it
  pub up_to_items : {p : List ℕ} → Items Item p → (t : List ℕ) → up_to step (p ++ t) ≡ length p + up_to step t
  up_to_items none t = sym (zero-add _)
  up_to_items (more {c = c} {s = s} i r) t =
      rw (append_assoc c s t, up_to_more step (length c) (c ++ (s ++ t)) (F.complete c (s ++ t) i) (F.filled c i) (simp length-append (omega arith)), drop-append_seam)
      (omega (arith, up_to_items r t, length-append c s))

  -- and what it leaves starts with no item
  pub up_to_left : (s : List ℕ) → step (drop (up_to step s) s) ≡ 0
  up_to_left s = go (step left) refl
    where
      left : List ℕ
      left = drop (up_to step s) s

      none_passed : up_to step left ≡ 0
      none_passed =
          omega (arith, length-take-le (up_to step s) s (up_to_le step s), ap (up_to step) (take-append-drop (up_to step s) s), up_to_items (up_to_sound s) left)

      go : (n : ℕ) → step left ≡ n → n ≡ 0
      go zero e = refl
      go (suc n) e = absurd (omega (arith, none_passed, up_to_more step (suc n) left e (omega arith) (omega (arith, F.inside left))))

  -- and no longer one is: a row that the list starts with is at most as long
  pub up_to_longest : (s : List ℕ) (n : ℕ) → n ≤ length s → Items Item (take n s) → n ≤ up_to step s
  up_to_longest s n h r =
      omega (arith, length-take-le n s h, ap (up_to step) (take-append-drop n s), up_to_items r (drop n s))

  -- the row is the whole list just where the list is a row of items
  pub up_to_whole : (s : List ℕ) → Items Item s → up_to step s ≡ length s
  up_to_whole s r = omega (arith, up_to_le step s, up_to_longest s (length s) (omega arith) (rw take-length r))

  -- what follows a row of items in a row of items is one
  pub items_rest : {p : List ℕ} → Items Item p → (t : List ℕ) → Items Item (p ++ t) → Items Item t
  items_rest {p = p} r t q =
      let e : up_to step t ≡ length t = omega (arith, up_to_items r t, up_to_whole (p ++ t) q, length-append p t) in
      rw (e, take-length) at (up_to_sound t)

  pub items_append : {p q : List ℕ} → Items Item p → Items Item q → Items Item (p ++ q)
  items_append none r = r
  items_append {q = q} (more {c = c} {s = s} i r) r' = rw (append_assoc c s q) (more i (items_append r r'))
