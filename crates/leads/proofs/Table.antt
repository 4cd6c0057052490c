-- Laws of the table of first bytes, each by one test that is computed over the whole table. Assumes nothing.
use mathlib.Core.Path.{◌≡◌, refl, ap}
use mathlib.Core.Bool.{Bool, true, false, cond, ◌&&◌, ◌||◌}
use mathlib.Core.List.{List, [], ◌∷◌}
use Prim.Native.Nat.{ℕ, ◌≤◌}
use native.Mathlib.Omega.{arith}
use borrow.Author.Tests.{ltb-true, leb-true, le-leb}
use lib.Dec.{leb, ltb}
use Rattle.std.specs.Prelude.{Option, None}
use Rattle.rules.proofs.Laws.{both}
use Rattle.leads.specs.declared.Lead.{Lead}
use Rattle.leads.specs.Table.{Row, table, look, asks, lead_of, Cont}
use Rattle.leads.specs.Table.Row.{row}

abbrev choose : Bool → Type 0 → Type 0 → Type 0
choose true A B = A
choose false A B = B

-- All numbers from lo to hi are looked up as x: they lie in the row at hand, or all outside of it. At numerals this computes to an equation
-- that is `refl`.
abbrev pub Within : List Row → ℕ → ℕ → Option Lead → Type 0
Within [] lo hi x = None ≡ x
Within (row f t l h n ∷ rows) lo hi x =
    choose (leb f lo && leb hi t) (asks l h n ≡ x) (choose (ltb hi f || ltb t lo) (Within rows lo hi x) ⊥)

outside : (f t lo hi a : ℕ) → lo ≤ a → a ≤ hi → (ltb hi f || ltb t lo) ≡ true → (leb f a && leb a t) ≡ false
outside f t lo hi a p q e = go (leb f a) refl (leb a t) refl (ltb hi f) refl e
  where
    go : (u : Bool) → leb f a ≡ u → (v : Bool) → leb a t ≡ v → (w : Bool) → ltb hi f ≡ w → (w || ltb t lo) ≡ true → (u && v) ≡ false
    go false i v j w k e = refl
    go true i false j w k e = refl
    go true i true j true k e = absurd (omega (arith, leb-true f a i, ltb-true hi f k))
    go true i true j false k e = absurd (omega (arith, leb-true a t j, ltb-true t lo e))

look_is : (rows : List Row) (lo hi a : ℕ) (x : Option Lead) → Within rows lo hi x → lo ≤ a → a ≤ hi → look rows a ≡ x
look_is [] lo hi a x w p q = w
look_is (row f t l h n ∷ rows) lo hi a x w p q =
    go (leb f lo && leb hi t) refl (ltb hi f || ltb t lo) refl (λ v. look_is rows lo hi a x v p q) w
  where
    go : (u : Bool) → (leb f lo && leb hi t) ≡ u → (v : Bool) → (ltb hi f || ltb t lo) ≡ v → (Within rows lo hi x → look rows a ≡ x)
        → choose u (asks l h n ≡ x) (choose v (Within rows lo hi x) ⊥) → cond (leb f a && leb a t) (asks l h n) (look rows a) ≡ x
    go true e v f' k w =
        let u = both (leb f lo) (leb hi t) e in
        rw (le-leb f a (omega (arith, leb-true f lo u.0)), le-leb a t (omega (arith, leb-true hi t u.1))) w
    go false e true f' k w = rw (outside f t lo hi a p q f') (k w)
    go false e false f' k w = absurd w

-- what the table says of a first byte from lo to hi
pub lead_is : (lo hi : ℕ) {a : ℕ} (x : Option Lead) → Within table lo hi x → lo ≤ a → a ≤ hi → lead_of a ≡ x
unfolding lead_of
lead_is lo hi {a} x w p q = look_is table lo hi a x w p q

-- No first byte is from 80 to BF, and what follows it is; some byte may follow.
abbrev fine : List Row → Bool
fine [] = true
fine (row f t l h n ∷ rows) = (ltb t 0x80 || ltb 0xBF f) && (leb 0x80 l && (leb h 0xBF && (leb l h && fine rows)))

pub record Followed (a l h : ℕ) : Type 0 where
  pub starts : Cont a → ⊥
  pub low : 0x80 ≤ l
  pub high : h ≤ 0xBF
  pub some : l ≤ h

starts_none : (f t a : ℕ) → (ltb t 0x80 || ltb 0xBF f) ≡ true → (leb f a && leb a t) ≡ true → Cont a → ⊥
starts_none f t a e g c =
    let u = both (leb f a) (leb a t) g in
    go (ltb t 0x80) refl e (leb-true f a u.0) (leb-true a t u.1)
  where
    go : (w : Bool) → ltb t 0x80 ≡ w → (w || ltb 0xBF f) ≡ true → f ≤ a → a ≤ t → ⊥
    go true k e p q = omega (arith, ltb-true t 0x80 k, c)
    go false k e p q = omega (arith, ltb-true 0xBF f e, c)

look_followed : (rows : List Row) (a : ℕ) {l h n : ℕ} → fine rows ≡ true → look rows a ≡ asks l h n → Followed a l h
look_followed [] a g e = let z : ◌≡◌ {A = ℕ} 0 1 = cc in absurd (omega arith)
look_followed (row f t l' h' n' ∷ rows) a {l} {h} {n} g e =
    let u = both (ltb t 0x80 || ltb 0xBF f) _ g in
    let v = both (leb 0x80 l') _ u.1 in
    let w = both (leb h' 0xBF) _ v.1 in
    let x = both (leb l' h') _ w.1 in
    go (leb f a && leb a t) refl u.0 (leb-true 0x80 l' v.0) (leb-true h' 0xBF w.0) (leb-true l' h' x.0) (look_followed rows a x.1) e
  where
    go : (b : Bool) → (leb f a && leb a t) ≡ b → (ltb t 0x80 || ltb 0xBF f) ≡ true → 0x80 ≤ l' → h' ≤ 0xBF → l' ≤ h'
        → (look rows a ≡ asks l h n → Followed a l h) → cond b (asks l' h' n') (look rows a) ≡ asks l h n → Followed a l h
    go true k s p q y r e =
        let same : ◌≡◌ {A = Lead} (record { lo = l'; hi = h'; rest = n' }) (record { lo = l; hi = h; rest = n }) = cc in
        let i = ap (λ (r : Lead). r.lo) same in
        let j = ap (λ (r : Lead). r.hi) same in
        record { starts = starts_none f t a s k; low = omega arith; high = omega arith; some = omega arith }
    go false k s p q y r e = r e

pub followed : {a l h n : ℕ} → lead_of a ≡ asks l h n → Followed a l h
unfolding lead_of
followed {a} e = look_followed table a refl e
