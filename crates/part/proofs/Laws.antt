-- Laws of parts. Assumes nothing.
use mathlib.Core.Path.{◌≡◌, sym, ◌∙◌}
use mathlib.Core.List.{List, [], ◌∷◌, ◌++◌}
use Prim.Native.Nat.{ℕ, zero, suc, ◌+◌, ◌-◌, ◌≤◌, ◌<◌}
use native.Mathlib.Nat.{add-zero, sub-zero, zero-sub, suc-sub-suc}
use native.Mathlib.Omega.{arith}
use lib.ListN.{length, take, drop, get_or, length-drop}
use lib.Seq.{drop-append-le, take-append-le, length-take-le, get_or-take, get_or-drop, take-take, take-nil, take_all, drop-drop}
use Rattle.part.specs.Part.{part}

pub part_length : (s : List ℕ) (f t : ℕ) → f ≤ t → t ≤ length s → length (part s f t) ≡ t - f
part_length s f t p q = length-take-le (t - f) (drop f s) (simp length-drop (omega arith))

-- what is added after the list does not matter
pub part_append : (s u : List ℕ) (f t : ℕ) → f ≤ t → t ≤ length s → part (s ++ u) f t ≡ part s f t
part_append s u f t p q =
    rw (drop-append-le f s u (omega arith), take-append-le (t - f) (drop f s) u (simp length-drop (omega arith)))

-- an element of a part
pub part_at : (s : List ℕ) (f t k : ℕ) → f + k < t → get_or (part s f t) k 0 ≡ get_or s (f + k) 0
part_at s f t k p = get_or-take (t - f) (drop f s) k 0 (omega arith) ∙ get_or-drop f s k 0

-- and its first one
pub part_first : (s : List ℕ) (f t : ℕ) → f < t → get_or (part s f t) 0 0 ≡ get_or s f 0
part_first s f t p = part_at s f t 0 (omega arith) ∙ rw add-zero

-- of a part with no bytes the first reads as 0
pub no_byte : (w : List ℕ) (a e : ℕ) → e ≤ a → 0 ≡ get_or (part w a e) 0 0
no_byte w a e p = let none : e - a ≡ 0 = omega arith in rw none

drop_take : (n b : ℕ) (s : List ℕ) → drop b (take n s) ≡ take (n - b) (drop b s)
drop_take n zero s = rw sub-zero
drop_take zero (suc b) s = rw zero-sub
drop_take (suc n) (suc b) [] = sym (take-nil (suc n - suc b))
drop_take (suc n) (suc b) (x ∷ s) = rw suc-sub-suc (drop_take n b s)

-- a part of a part
pub part_part : (s : List ℕ) (f t a b : ℕ) → f + b ≤ t → part (part s f t) a b ≡ part s (f + a) (f + b)
part_part s f t a b q =
    let e : f + b - (f + a) ≡ b - a = omega arith in
    rw (drop_take (t - f) a (drop f s), take-take (b - a) (t - f - a) (drop a (drop f s)) (omega arith), drop-drop a f s, e)

-- all of it
pub part_whole : (s : List ℕ) → part s 0 (length s) ≡ s
part_whole s = rw sub-zero (take_all (length s) s (omega arith))
