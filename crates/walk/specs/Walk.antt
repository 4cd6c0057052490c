-- A list of bytes as a row of items, one after another: what UTF-8 text is in characters (RFC 3629), for any kind of item.
-- `step s` is the length of the item that `s` starts with, 0 where it starts with none. Assumes nothing.
use Rattle.std.specs.Prelude.{List, [], ◌∷◌, ◌++◌, ℕ, zero, suc, ◌≤◌, ◌<◌, ◌≡◌, length, take}

-- a list that is a row of items
pub data Items (Item : List ℕ → Type 0) : List ℕ → Type 0 where
  none : Items Item []
  more : {c s : List ℕ} → Item c → Items Item s → Items Item (c ++ s)

-- `step` finds the item that a list starts with, whatever follows it
pub record Finds (Item : List ℕ → Type 0) (step : List ℕ → ℕ) : Type 0 where
  pub filled : (c : List ℕ) → Item c → 0 < length c
  pub inside : (s : List ℕ) → step s ≤ length s
  pub sound : (s : List ℕ) → 0 < step s → Item (take (step s) s)
  pub complete : (c s : List ℕ) → Item c → step (c ++ s) ≡ length c

-- THE LENGTH OF THE LONGEST ROW OF ITEMS THAT A LIST STARTS WITH.

-- the byte at hand is passed where an item starts there, and then the n - 1 others of that item
abbrev pub pass : ℕ → (ℕ → ℕ) → ℕ
pass zero after = 0
pass (suc n) after = suc (after n)

-- `left` bytes of the item at hand are still to be passed
abbrev pub scan : (List ℕ → ℕ) → ℕ → List ℕ → ℕ
scan step left [] = 0
scan step zero (b ∷ s) = pass (step (b ∷ s)) (λ n. scan step n s)
scan step (suc left) (b ∷ s) = suc (scan step left s)

unfoldable pub up_to : (List ℕ → ℕ) → List ℕ → ℕ
up_to step s = scan step 0 s
