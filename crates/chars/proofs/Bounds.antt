-- Where characters start: in a text, at each byte that is not from 80 to BF, and at no other. Assumes nothing.
use mathlib.Core.Path.{◌≡◌}
use mathlib.Core.List.{List, ◌++◌}
use Prim.Native.Nat.{ℕ, zero, suc, ◌+◌, ◌-◌, ◌≤◌, ◌<◌}
use native.Mathlib.Decide.{dec_lt}
use native.Mathlib.Nat.{add-zero}
use native.Mathlib.Omega.{arith}
use lib.ListN.{length, get_or, length-append, length-drop, get_or-append}
use lib.Seq.{take-append-add, drop-append-add, get_or-append-add, get_or-drop}
use Rattle.walk.specs.Walk.Items.{none, more}
use Rattle.leads.specs.Table.{Cont}
use Rattle.chars.specs.Rfc3629.{Tails, Char, Text, Bound}
use Rattle.chars.specs.Rfc3629.Tails.{end, next}
use Rattle.chars.specs.Rfc3629.Char.{char_of}
use Rattle.leads.proofs.Table.{followed}

tails_cont : {l h n : ℕ} {c : List ℕ} → Tails l h n c → 0x80 ≤ l → h ≤ 0xBF → (k : ℕ) → k < length c → Cont (get_or c k 0)
tails_cont end u v k p = absurd (omega arith)
tails_cont (next x y r) u v zero p = omega arith
tails_cont (next x y r) u v (suc k) p = tails_cont r (omega arith) (omega arith) k (omega arith)

-- a character's first byte continues none, and its others do
pub char_first : {c : List ℕ} → Char c → Cont (get_or c 0 0) → ⊥
char_first (char_of e t) = (followed e).starts

pub char_inner : {c : List ℕ} → Char c → (k : ℕ) → 0 < k → k < length c → Cont (get_or c k 0)
char_inner (char_of e t) zero u v = absurd (omega arith)
char_inner (char_of e t) (suc k) u v = tails_cont t (followed e).low (followed e).high k (omega arith)

-- a text that is not empty starts with a byte that continues no character
pub text_first : {s : List ℕ} → Text s → 0 < length s → Cont (get_or s 0 0) → ⊥
text_first none p = absurd (omega arith)
text_first (more (char_of e t) x) u = (followed e).starts

bound_in : {c s : List ℕ} → Char c → Text s → (i : ℕ) → i < length c → (Cont (get_or (c ++ s) i 0) → ⊥) → Bound (c ++ s) i
bound_in x r zero p h = (none, more x r)
bound_in {c} {s} x r (suc k) p h = absurd (h (rw (get_or-append c s 0 (suc k) p) (char_inner x (suc k) (omega arith) p)))

bound_after : (c s : List ℕ) → Char c → (j : ℕ) → Bound s j → Bound (c ++ s) (length c + j)
bound_after c s x j b = rw (take-append-add c s j, drop-append-add c s j) (more x b.0, b.1)

-- a byte that continues no character is where one starts
abbrev Starts : List ℕ → Type 0
Starts s = (i : ℕ) → i < length s → (Cont (get_or s i 0) → ⊥) → Bound s i

bound_split : (c s : List ℕ) → Char c → Text s → Starts s → (i : ℕ) → i < length (c ++ s) → (Cont (get_or (c ++ s) i 0) → ⊥) → Dec (i < length c) → Bound (c ++ s) i
bound_split c s x r k i p h (yes q) = bound_in x r i q h
bound_split c s x r k i p h (no q) =
    let e : i ≡ length c + (i - length c) = omega arith in
    rw e
    (bound_after c s x (i - length c)
    (k (i - length c) (omega (arith, length-append c s)) (λ u. h (rw (e, get_or-append-add c s (i - length c) 0) u))))

pub bound : {s : List ℕ} → Text s → Starts s
bound none i p h = absurd (omega arith)
bound (more {c = c} {s = s} x r) i p h = bound_split c s x r (λ j q g. bound r j q g) i p h (dec_lt i (length c))

-- and where one starts, the byte continues none
pub bound_byte : (s : List ℕ) (i : ℕ) → i < length s → Bound s i → Cont (get_or s i 0) → ⊥
bound_byte s i p b =
    rw (get_or-drop i s 0 0, add-zero i) at (text_first b.1 (simp length-drop (omega arith)))
