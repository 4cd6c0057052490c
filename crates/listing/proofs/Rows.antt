-- Rows of three words a field, written from the front. Assumes nothing.
use Rattle.rules.proofs.Prelude.{◌≡◌, refl, List, ◌++◌, ℕ, suc, ◌+◌, ◌*◌, ◌≤◌, arith, length, set, drop}
use Rattle.rules.proofs.Rows as written
use Rattle.layer.specs.Object.{id, offset, start}
use Rattle.listing.specs.Words.{span, row, rows}

pub row_three : (o : List ℕ) (k : ℕ) → length (row o k) ≡ 3
unfolding row
row_three o k = refl

pub rows_length : (o : List ℕ) (n : ℕ) → length (rows o n) ≡ 3 * n
rows_length o = written.rows_length (row o) 3 (row_three o)

-- a turn of the loop
pub turn : (o w₀ w : List ℕ) (k at : ℕ) {x y z : ℕ} → w ≡ rows o k ++ drop at w₀ → at ≡ 3 * k → x ≡ id o k → y ≡ start o + offset o k
    → z ≡ span o k → at + 3 ≤ length w₀ → set (set (set w at x) (at + 1) y) (at + 2) z ≡ rows o (k + 1) ++ drop (at + 3) w₀
unfolding row
turn o w₀ w k at hw ha hx hy hz h =
    let e1 : at + 1 ≡ suc at = omega arith in
    let e2 : at + 2 ≡ suc (suc at) = omega arith in
    rw (e1, e2, hx, hy, hz) (written.rows_more (row o) 3 (row_three o) w₀ w k at hw ha h)
