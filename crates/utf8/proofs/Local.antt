-- Each byte looked at with the three before it: where all are right, a character starts at each byte that continues none. Assumes nothing.
use mathlib.Core.Path.{◌≡◌, refl, sym, ◌∙◌}
use mathlib.Core.Bool.{Bool, true, false, not, beq, ◌&&◌, ◌||◌}
use mathlib.Core.List.{List, ◌∷◌}
use Prim.Native.Nat.{ℕ, zero, suc, ◌+◌, ◌≤◌, ◌<◌}
use native.Mathlib.Decide.{dec_lt}
use native.Mathlib.Omega.{arith}
use borrow.Author.Tests.{ltb-false, leb-true, leb-false, eqb-false, le-leb, lt-leb, eq-eqb}
use lib.Dec.{leb, ltb, eqb}
use lib.ListN.{length, drop, get_or}
use Rattle.rules.proofs.Laws.{false_true, both, either, neither}
use Rattle.leads.specs.Table.{asks, lead_of, Cont}
use Rattle.chars.specs.Rfc3629.{tails_of}
use Rattle.leads.proofs.Table.{lead_is}
use Rattle.chars.proofs.Laws.{tails_none, tails_in, char_seq}
use Rattle.plain.specs.Steps.{Reached}
use Rattle.plain.proofs.Laws.{text_go}
use Rattle.blocks.specs.Steps.{wrong_of, Rights}

-- TESTS.

and_rest : (t u : Bool) → (t && u) ≡ false → t ≡ true → u ≡ false
and_rest true u e p = e
and_rest false u e p = false_true p

same : (t u : Bool) → not (beq t u) ≡ false → t ≡ u
same true true e = refl
same true false e = false_true (sym e)
same false true e = false_true (sym e)
same false false e = refl

-- what `wrong_of` tells where it is false
pub record Right (d c a b : ℕ) : Type 0 where
  pub first : a < 0xC0 → c < 0xE0 → d < 0xF0 → 0x80 ≤ b → (0xC2 ≤ b) × (b ≤ 0xF4)
  pub second : 0xC0 ≤ a → Cont b
  pub third : 0xE0 ≤ c → Cont b
  pub fourth : 0xF0 ≤ d → Cont b
  pub e0 : a ≡ 0xE0 → 0xA0 ≤ b
  pub ed : a ≡ 0xED → b ≤ 0x9F
  pub f0 : a ≡ 0xF0 → 0x90 ≤ b
  pub f4 : a ≡ 0xF4 → b ≤ 0x8F

module _ (d c a b : ℕ) where
  continued : (leb 0x80 b && leb b 0xBF) ≡ true → Cont b
  continued e = let u = both (leb 0x80 b) (leb b 0xBF) e in (leb-true 0x80 b u.0, leb-true b 0xBF u.1)

  pub right : wrong_of d c a b ≡ false → Right d c a b
  unfolding wrong_of
  right e =
      let u = neither _ ((eqb a 0xED && ltb 0x9F b) || (eqb a 0xF4 && ltb 0x8F b)) e in
      let v = neither _ ((eqb a 0xE0 && ltb b 0xA0) || (eqb a 0xF0 && ltb b 0x90)) u.0 in
      let w = neither _ ((eqb b 0xC0 || eqb b 0xC1) || leb 0xF5 b) v.0 in
      let asked = (leb 0xC0 a || leb 0xE0 c) || leb 0xF0 d in
      let x : (leb 0x80 b && leb b 0xBF) ≡ asked = same (leb 0x80 b && leb b 0xBF) asked w.0 in
      let never = neither (eqb b 0xC0 || eqb b 0xC1) (leb 0xF5 b) w.1 in
      let lead = neither (eqb b 0xC0) (eqb b 0xC1) never.0 in
      let low = neither (eqb a 0xE0 && ltb b 0xA0) (eqb a 0xF0 && ltb b 0x90) v.1 in
      let high = neither (eqb a 0xED && ltb 0x9F b) (eqb a 0xF4 && ltb 0x8F b) u.1 in
      record {
        first = λ p q r h.
            let none : asked ≡ false = rw (lt-leb 0xC0 a p, lt-leb 0xE0 c q, lt-leb 0xF0 d r) in
            let above = leb-false b 0xBF (and_rest (leb 0x80 b) (leb b 0xBF) (x ∙ none) (le-leb 0x80 b h)) in
            let m = eqb-false b 0xC0 lead.0 in
            let n = eqb-false b 0xC1 lead.1 in
            (omega arith, omega (arith, leb-false 0xF5 b never.1));
        second = λ p. continued (x ∙ rw (le-leb 0xC0 a p));
        third = λ p. continued (x ∙ rw (either (leb 0xC0 a) (leb 0xE0 c) (λ _. le-leb 0xE0 c p)));
        fourth = λ p. continued (x ∙ either (leb 0xC0 a || leb 0xE0 c) (leb 0xF0 d) (λ _. le-leb 0xF0 d p));
        e0 = λ p. ltb-false b 0xA0 (and_rest (eqb a 0xE0) (ltb b 0xA0) low.0 (eq-eqb a 0xE0 p));
        f0 = λ p. ltb-false b 0x90 (and_rest (eqb a 0xF0) (ltb b 0x90) low.1 (eq-eqb a 0xF0 p));
        ed = λ p. ltb-false 0x9F b (and_rest (eqb a 0xED) (ltb 0x9F b) high.0 (eq-eqb a 0xED p));
        f4 = λ p. ltb-false 0x8F b (and_rest (eqb a 0xF4) (ltb 0x8F b) high.1 (eq-eqb a 0xF4 p));
      }

-- CHARACTERS.

module _ (s : List ℕ) where
  -- a character of the table at i, by its row
  go_on : (i l h n : ℕ) → Reached s i → i < length s → lead_of (get_or s i 0) ≡ asks l h n → true ≡ tails_of l h n (drop (i + 1) s) → Reached s (i + (n + 1))
  go_on i l h n r q e t = text_go s i (n + 1) r (sym (char_seq i s true q e t)) (λ z. omega arith)

  tails_one : (l h j : ℕ) → j < length s → l ≤ get_or s j 0 → get_or s j 0 ≤ h → true ≡ tails_of l h 1 (drop j s)
  tails_one l h j q u v = sym (tails_in l h j s 1 (omega arith) q u v ∙ tails_none 0x80 0xBF (j + 1) s)

  tails_two : (l h j : ℕ) → j + 1 < length s → l ≤ get_or s j 0 → get_or s j 0 ≤ h → Cont (get_or s (j + 1) 0) → true ≡ tails_of l h 2 (drop j s)
  tails_two l h j q u v t = tails_one 0x80 0xBF (j + 1) q t.0 t.1 ∙ sym (tails_in l h j s 2 (omega arith) (omega arith) u v)

  tails_three : (l h j : ℕ) → j + 1 + 1 < length s → l ≤ get_or s j 0 → get_or s j 0 ≤ h → Cont (get_or s (j + 1) 0) → Cont (get_or s (j + 1 + 1) 0)
      → true ≡ tails_of l h 3 (drop j s)
  tails_three l h j q u v t w = tails_two 0x80 0xBF (j + 1) q t.0 t.1 w ∙ sym (tails_in l h j s 3 (omega arith) (omega arith) u v)

-- the row of a first byte b, with what it asks of the byte x after it
module _ {P : Type 0} {d c : ℕ} (b x : ℕ) (r : Right d c b x) where
  row_three : 0xE0 ≤ b → b < 0xF0 → ((l h : ℕ) → lead_of b ≡ asks l h 2 → l ≤ x → x ≤ h → P) → P
  row_three p q k = go (dec_lt b 0xE1) (dec_lt b 0xED) (dec_lt b 0xEE) (r.second (omega arith))
    where
      go : Dec (b < 0xE1) → Dec (b < 0xED) → Dec (b < 0xEE) → Cont x → P
      go (yes i) m n t = k 0xA0 0xBF (lead_is 0xE0 0xE0 _ refl (omega arith) (omega arith)) (r.e0 (omega arith)) t.1
      go (no i) (yes m) n t = k 0x80 0xBF (lead_is 0xE1 0xEC _ refl (omega arith) (omega arith)) t.0 t.1
      go (no i) (no m) (yes n) t = k 0x80 0x9F (lead_is 0xED 0xED _ refl (omega arith) (omega arith)) t.0 (r.ed (omega arith))
      go (no i) (no m) (no n) t = k 0x80 0xBF (lead_is 0xEE 0xEF _ refl (omega arith) (omega arith)) t.0 t.1

  row_four : 0xF0 ≤ b → b ≤ 0xF4 → ((l h : ℕ) → lead_of b ≡ asks l h 3 → l ≤ x → x ≤ h → P) → P
  row_four p q k = go (dec_lt b 0xF1) (dec_lt b 0xF4) (r.second (omega arith))
    where
      go : Dec (b < 0xF1) → Dec (b < 0xF4) → Cont x → P
      go (yes i) m t = k 0x90 0xBF (lead_is 0xF0 0xF0 _ refl (omega arith) (omega arith)) (r.f0 (omega arith)) t.1
      go (no i) (yes m) t = k 0x80 0xBF (lead_is 0xF1 0xF3 _ refl (omega arith) (omega arith)) t.0 t.1
      go (no i) (no m) t = k 0x80 0x8F (lead_is 0xF4 0xF4 _ refl (omega arith) (omega arith)) t.0 (r.f4 (omega arith))

-- nothing is asked of what stands at i
abbrev Free : List ℕ → ℕ → Type 0
Free s i = (get_or (0 ∷ s) i 0 < 0xC0) × (get_or (0 ∷ 0 ∷ s) i 0 < 0xE0) × (get_or (0 ∷ 0 ∷ 0 ∷ s) i 0 < 0xF0)

-- All is right up to w, which continues nothing: from character to character, the check comes to w.
module _ (s : List ℕ) (w : ℕ) (inside : w < length s) (rights : Rights s 0 (w + 1)) (stop : Cont (get_or s w 0) → ⊥) where
  at : (k : ℕ) → k ≤ w → Right (get_or (0 ∷ 0 ∷ 0 ∷ s) k 0) (get_or (0 ∷ 0 ∷ s) k 0) (get_or (0 ∷ s) k 0) (get_or s k 0)
  at k p = right _ _ _ _ (rights k (omega arith) (omega arith))

  inner : (k : ℕ) → k ≤ w → Cont (get_or s k 0) → k < w
  inner k p t = go (dec_lt k w)
    where
      go : Dec (k < w) → k < w
      go (yes q) = q
      go (no q) = let e : k ≡ w = omega arith in absurd (stop (rw e at t))

  module _ (i : ℕ) (below : i < w) (free : Free s i) (here : Reached s i) (on : (v : ℕ) → i < v → v ≤ w → Free s v → Reached s v → Reached s w) where
    one : get_or s i 0 < 0x80 → Reached s w
    one p =
        let e : i + (0 + 1) ≡ suc i = omega arith in
        on (suc i) (omega arith) below (omega arith, omega (arith, free), omega (arith, free))
        (rw e at (go_on s i 0x80 0xBF 0 here (omega arith) (lead_is 0x00 0x7F _ refl (omega arith) (omega arith)) (sym (tails_none 0x80 0xBF (i + 1) s))))

    two : 0xC2 ≤ get_or s i 0 → get_or s i 0 < 0xE0 → Reached s w
    two p q =
        let t = (at (suc i) below).second (omega arith) in
        let b = inner (suc i) below t in
        let e : i + (1 + 1) ≡ suc (suc i) = omega arith in
        let e1 : i + 1 ≡ suc i = omega arith in
        let y : true ≡ tails_of 0x80 0xBF 1 (drop (i + 1) s) = rw e1 (tails_one s 0x80 0xBF (suc i) (omega arith) t.0 t.1) in
        on (suc (suc i)) (omega arith) b (omega (arith, t.1), q, omega (arith, free))
        (rw e at (go_on s i 0x80 0xBF 1 here (omega arith) (lead_is 0xC2 0xDF _ refl p (omega arith)) y))

    three : 0xE0 ≤ get_or s i 0 → get_or s i 0 < 0xF0 → Reached s w
    three p q =
        let r = at (suc i) below in
        let t = r.second (omega arith) in
        let b = inner (suc i) below t in
        let u = (at (suc (suc i)) b).third p in
        let c = inner (suc (suc i)) b u in
        let e : i + (2 + 1) ≡ suc (suc (suc i)) = omega arith in
        let e1 : i + 1 ≡ suc i = omega arith in
        let e2 : suc i + 1 ≡ suc (suc i) = omega arith in
        let u' : Cont (get_or s (suc i + 1) 0) = rw e2 u in
        row_three (get_or s i 0) (get_or s (suc i) 0) r p q
        (λ l h f m n.
        let y : true ≡ tails_of l h 2 (drop (i + 1) s) = rw e1 (tails_two s l h (suc i) (omega arith) m n u') in
        on (suc (suc (suc i))) (omega arith) c (omega (arith, u.1), omega (arith, t.1), q)
        (rw e at (go_on s i l h 2 here (omega arith) f y)))

    four : 0xF0 ≤ get_or s i 0 → get_or s i 0 ≤ 0xF4 → Reached s w
    four p q =
        let r = at (suc i) below in
        let t = r.second (omega arith) in
        let b = inner (suc i) below t in
        let u = (at (suc (suc i)) b).third (omega arith) in
        let c = inner (suc (suc i)) b u in
        let v = (at (suc (suc (suc i))) c).fourth p in
        let d = inner (suc (suc (suc i))) c v in
        let e : i + (3 + 1) ≡ suc (suc (suc (suc i))) = omega arith in
        let e1 : i + 1 ≡ suc i = omega arith in
        let e2 : suc i + 1 ≡ suc (suc i) = omega arith in
        let e3 : suc i + 1 + 1 ≡ suc (suc (suc i)) = omega arith in
        let u' : Cont (get_or s (suc i + 1) 0) = rw e2 u in
        let v' : Cont (get_or s (suc i + 1 + 1) 0) = rw e3 v in
        row_four (get_or s i 0) (get_or s (suc i) 0) r p q
        (λ l h f m n.
        let y : true ≡ tails_of l h 3 (drop (i + 1) s) = rw e1 (tails_three s l h (suc i) (omega arith) m n u' v') in
        on (suc (suc (suc (suc i)))) (omega arith) d (omega (arith, v.1), omega (arith, u.1), omega (arith, t.1))
        (rw e at (go_on s i l h 3 here (omega arith) f y)))

    step : Dec (get_or s i 0 < 0x80) → Dec (get_or s i 0 < 0xE0) → Dec (get_or s i 0 < 0xF0) → Reached s w
    step (yes p) q r = one p
    step (no p) q r = go ((at i (omega arith)).first free.0 free.1 free.2 (omega arith)) q r
      where
        go : (0xC2 ≤ get_or s i 0) × (get_or s i 0 ≤ 0xF4) → Dec (get_or s i 0 < 0xE0) → Dec (get_or s i 0 < 0xF0) → Reached s w
        go b (yes q) r = two b.0 q
        go b (no q) (yes r) = three (omega arith) r
        go b (no q) (no r) = four (omega arith) b.1

  walk : (m i : ℕ) → w ≤ i + m → i ≤ w → Free s i → Reached s i → Reached s w
  walk zero i h l f r = let e : i ≡ w = omega arith in rw e at r
  walk (suc m) i h l f r = go (dec_lt i w) (λ v p q g k. walk m v (omega arith) q g k)
    where
      go : Dec (i < w) → ((v : ℕ) → i < v → v ≤ w → Free s v → Reached s v → Reached s w) → Reached s w
      go (yes u) on = step i u f r on (dec_lt _ _) (dec_lt _ _) (dec_lt _ _)
      go (no u) on = let e : i ≡ w = omega arith in rw e at r

  -- a byte that continues nothing starts a character
  pub right_start : Reached s w
  right_start = walk w 0 (omega arith) (omega arith) (omega arith, omega arith, omega arith) (omega arith, omega arith)
