-- Marks: what a place reads after marks are cleared and after one is kept. The rest the library says of `set`: get_or-set_same,
-- getD-set-other and set_out of lib.Seq, and length-set of lib.ListN. Assumes nothing.
use Rattle.rules.proofs.Prelude.{◌≡◌, ap, List, ℕ, ◌≤◌, ◌<◌, dec_lt, arith, length, get_or, set, replicate}
use lib.ListN.{length-replicate, get_or-replicate, get_or-eq_default}
use lib.Seq.{get_or-set_same, set_out}
use Rattle.marks.specs.Marks.{cleared}

-- CLEARED: as many as were lent, each reads as 0; it goes by their number alone, and clearing again changes nothing
pub cleared_length : (marks : List ℕ) → length (cleared marks) ≡ length marks
cleared_length marks = length-replicate (length marks) 0

pub cleared_at : (marks : List ℕ) (i : ℕ) → get_or (cleared marks) i 0 ≡ 0
cleared_at marks i = go (dec_lt i (length marks))
  where
    go : Dec (i < length marks) → get_or (cleared marks) i 0 ≡ 0
    go (yes p) = get_or-replicate (length marks) i 0 0 p
    go (no p) = get_or-eq_default (cleared marks) 0 (omega (arith, cleared_length marks))

pub cleared_as : (marks others : List ℕ) → length marks ≡ length others → cleared marks ≡ cleared others
cleared_as marks others e = ap (λ n. replicate n 0) e

pub cleared_again : (marks : List ℕ) → cleared (cleared marks) ≡ cleared marks
cleared_again marks = cleared_as (cleared marks) marks (cleared_length marks)

-- KEPT: where a place reads a mark after one was put there, it is the one that was put; past the end none is
pub put_past : (marks : List ℕ) (i m : ℕ) → length marks ≤ i → get_or (set marks i m) i 0 ≡ 0
put_past marks i m p = rw (set_out marks i m p) (get_or-eq_default marks 0 p)

pub put_read : (marks : List ℕ) (i m : ℕ) → 0 < get_or (set marks i m) i 0 → get_or (set marks i m) i 0 ≡ m
put_read marks i m some = go (dec_lt i (length marks))
  where
    go : Dec (i < length marks) → get_or (set marks i m) i 0 ≡ m
    go (yes p) = get_or-set_same marks i m 0 p
    go (no p) = absurd (omega (arith, put_past marks i m (omega arith)))
