-- A number of such a row is read where it stands. Assumes nothing.
use Prim.Native.Nat.{◌^◌}
use native.Mathlib.Nat.{mul-suc, mul-zero}
use Rattle.rules.proofs.Prelude.{◌≡◌, List, [], ◌∷◌, ◌++◌, append_assoc, ℕ, zero, suc, ◌+◌, ◌*◌, ◌<◌, arith, length, drop, get_or, length-append, drop-append-add}
use Rattle.width.specs.Width.{le, bytes_of}
use Rattle.width.proofs.Laws.{bytes_length, le_bytes}
use Rattle.put.specs.Numbers.{numbers}

pub numbers_length : (w : ℕ) (ns : List ℕ) → length (numbers w ns) ≡ w * length ns
unfolding numbers
numbers_length w [] = omega (arith, mul-zero w)
numbers_length w (n ∷ ns) = simp length-append (omega (arith, bytes_length w n, numbers_length w ns, mul-suc w (length ns)))

pub le_numbers : (w : ℕ) (ns rest : List ℕ) (k : ℕ) → k < length ns → get_or ns k 0 < 256 ^ w → le w (drop (w * k) (numbers w ns ++ rest)) ≡ get_or ns k 0
unfolding numbers
le_numbers w [] rest k p h = absurd (omega arith)
le_numbers w (n ∷ ns) rest zero p h = rw (mul-zero w, append_assoc) (le_bytes w n (numbers w ns ++ rest) h)
le_numbers w (n ∷ ns) rest (suc k) p h =
    let e : w * suc k ≡ length (bytes_of w n) + w * k = omega (arith, mul-suc w k, bytes_length w n) in
    rw (e, append_assoc, drop-append-add (bytes_of w n) (numbers w ns ++ rest) (w * k)) (le_numbers w ns rest k (omega arith) h)
