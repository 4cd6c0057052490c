-- What the check's loops go by: from character to character, and over runs of plain bytes. Assumes nothing.
use mathlib.Core.Path.{◌≡◌, sym}
use mathlib.Core.List.{List}
use Prim.Native.Nat.{ℕ, zero, suc, ◌+◌, ◌≤◌, ◌<◌}
use native.Mathlib.Decide.{dec_lt}
use native.Mathlib.Omega.{arith}
use lib.ListN.{length, drop, get_or}
use Rattle.walk.proofs.Laws.{up_to_next}
use Rattle.chars.specs.Rfc3629.{Char, char, text_up_to}
use Rattle.chars.proofs.Laws.{chars, char_plain}
use Rattle.plain.specs.Steps.{Reached, AtMost}

-- What a loop over a text goes by: it goes on by a character that starts where it has come to.
pub text_go : (s : List ℕ) (i n : ℕ) → Reached s i → n ≡ char (drop i s) → (n ≡ 0 → ⊥) → Reached s (i + n)
unfolding text_up_to
text_go s i n r q p = up_to_next Char char chars s i n r.0 r.1 q p

-- And what a stride may do: a run of bytes below 80 at the place reached is passed whole.
pub text_run : (s : List ℕ) (i j : ℕ) → Reached s i → i ≤ j → j ≤ length s → AtMost s i j 0x7F → Reached s j
text_run s i zero r p q h = let e : i ≡ 0 = omega arith in rw e at r
text_run s i (suc j) r p q h =
    go (dec_lt j i) (λ u. text_run s i j r (omega arith) (omega arith) (λ k v w. h k v (omega arith)))
  where
    go : Dec (j < i) → ((j < i → ⊥) → Reached s j) → Reached s (suc j)
    go (yes u) f = let e : suc j ≡ i = omega arith in rw e r
    go (no u) f =
        let e : suc j ≡ j + 1 = omega arith in
        rw e (text_go s j 1 (f u) (sym (char_plain j s (omega arith) (omega (arith, h j (omega arith) (omega arith))))) (λ z. omega arith))

-- What holds from i up to j, and further on, holds of both together.
module _ (P : ℕ → Type 0) (i j : ℕ) (h : (x : ℕ) → i ≤ x → x < j → P x) where
  pub join : (k n : ℕ) → ((x : ℕ) → k ≤ x → x < n → P x) → k ≤ j → (x : ℕ) → i ≤ x → x < n → P x
  join k n g l x p q = go (dec_lt x j)
    where
      go : Dec (x < j) → P x
      go (yes u) = h x p u
      go (no u) = g x (omega arith) q

  pub join_one : P j → (x : ℕ) → i ≤ x → x < j + 1 → P x
  join_one r = join j (j + 1) (λ x u v. let e : x ≡ j = omega arith in rw e r) (omega arith)

-- so of one byte more under a bound
pub at_most_more : (s : List ℕ) (i j m m' : ℕ) → AtMost s i j m → m ≤ m' → get_or s j 0 ≤ m' → AtMost s i (j + 1) m'
at_most_more s i j m m' h p q = join_one (λ k. get_or s k 0 ≤ m') i j (λ k u v. omega (arith, h k u v)) q
