-- Bytes that are right, many at a time. Assumes nothing.
use mathlib.Core.Path.{◌≡◌}
use mathlib.Core.Bool.{false, ◌||◌}
use mathlib.Core.List.{List}
use Prim.Native.Nat.{ℕ, suc, ◌+◌, ◌-◌, ◌≤◌, ◌<◌}
use native.Mathlib.Omega.{arith}
use borrow.Author.Tests.{lt-leb, ne_eqb}
use lib.Dec.{leb, eqb}
use lib.ListN.{get_or}
use Rattle.plain.specs.Steps.{AtMost}
use Rattle.plain.proofs.Laws.{join_one}
use Rattle.blocks.specs.Steps.{wrong_of, RightAt, Rights}

plain : (d c a b : ℕ) → d < 0x80 → c < 0x80 → a < 0x80 → b < 0x80 → wrong_of d c a b ≡ false
unfolding wrong_of
plain d c a b p q r t =
    let x : leb 0x80 b ≡ false = lt-leb 0x80 b t in
    let y : ((leb 0xC0 a || leb 0xE0 c) || leb 0xF0 d) ≡ false = rw (lt-leb 0xC0 a (omega arith), lt-leb 0xE0 c (omega arith), lt-leb 0xF0 d (omega arith)) in
    let z : ((eqb b 0xC0 || eqb b 0xC1) || leb 0xF5 b) ≡ false = rw (ne_eqb b 0xC0 (λ e. omega arith), ne_eqb b 0xC1 (λ e. omega arith), lt-leb 0xF5 b (omega arith)) in
    let u : eqb a 0xE0 ≡ false = ne_eqb a 0xE0 (λ e. omega arith) in
    let v : eqb a 0xF0 ≡ false = ne_eqb a 0xF0 (λ e. omega arith) in
    let w : eqb a 0xED ≡ false = ne_eqb a 0xED (λ e. omega arith) in
    let k : eqb a 0xF4 ≡ false = ne_eqb a 0xF4 (λ e. omega arith) in
    rw (x, y, z, u, v, w, k)

module _ (s : List ℕ) where
  pub rights_three : RightAt s 0 → RightAt s 1 → RightAt s 2 → Rights s 0 3
  rights_three x y z = join_one (RightAt s) 0 2 (join_one (RightAt s) 0 1 (join_one (RightAt s) 0 0 (λ k p q. absurd (omega arith)) x) y) z

  pub rights_start : (m : ℕ) → AtMost s 0 3 m → m < 0x80 → Rights s 0 3
  rights_start m h p =
      let low : (j : ℕ) → j < 3 → get_or s j 0 < 0x80 = λ j q. omega (arith, h j (omega arith) q) in
      let x = low 0 (omega arith) in
      let y = low 1 (omega arith) in
      rights_three (plain 0 0 0 _ (omega arith) (omega arith) (omega arith) x) (plain 0 0 _ _ (omega arith) (omega arith) x y) (plain 0 _ _ _ (omega arith) x y (low 2 (omega arith)))

  -- three behind a place
  pub right_behind : (i : ℕ) → wrong_of (get_or s i 0) (get_or s (i + 1) 0) (get_or s (i + 2) 0) (get_or s (i + 3) 0) ≡ false → RightAt s (i + 3)
  right_behind i e =
      let e1 : i + 1 ≡ suc i = omega arith in
      let e2 : i + 2 ≡ suc (suc i) = omega arith in
      let e3 : i + 3 ≡ suc (suc (suc i)) = omega arith in
      rw e3 (rw (e1, e2, e3) at e)

  pub rights_plain : (i n m : ℕ) → AtMost s i (i + 3 + n) m → m < 0x80 → Rights s (i + 3) (i + 3 + n)
  rights_plain i n m h p k q r =
      let e : k - 3 + 3 ≡ k = omega arith in
      let low : (j : ℕ) → j ≤ 3 → get_or s (k - 3 + j) 0 < 0x80 = λ j l. omega (arith, h (k - 3 + j) (omega arith) (omega arith)) in
      let e0 : k - 3 + 0 ≡ k - 3 = omega arith in
      rw e at (right_behind (k - 3) (plain _ _ _ _ (rw e0 at (low 0 (omega arith))) (low 1 (omega arith)) (low 2 (omega arith)) (low 3 (omega arith))))
