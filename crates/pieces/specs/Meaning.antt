-- What is so of a dictionary that comes in pieces, in words: which bytes are wanted, when each answer is due, and runs of calls.
-- proofs/Settles.antt and proofs/Cutting.antt show that the definitions of Pieces.antt and Feed.antt say the same. Assumes nothing.
use Rattle.std.specs.Prelude.{◌≡◌, true, List, [], ◌∷◌, ℕ, ◌+◌, ◌≤◌, ◌<◌, length, take}
use Rattle.rules.specs.Rules.{Answer, accept, refuse}
use Rattle.width.specs.Limits.{u32_max}
use Rattle.dictionary.specs.Dictionary.{width, offset, start, end, verdict}
use Rattle.dictionary.specs.Meaning.{Versioned, Counted, Placed, Dictionary, Refusal}
use Rattle.pieces.specs.declared.State.{State}
use Rattle.pieces.specs.Pieces.{unsettled, more, full}
use Rattle.pieces.specs.Promises.{FeedPromise}

-- HOW MANY BYTES ARE WANTED, where what is there is empty or short: the first byte, the count, the offsets, the region
pub data Wants (d : List ℕ) : ℕ → Type 0 where
  first_byte : length d ≡ 0 → Wants d 1
  the_count : Versioned d → length d < 1 + width d → Wants d (1 + width d)
  the_offsets : Counted d → start d ≤ u32_max → length d < start d → Wants d (start d)
  the_region : Placed d → offset d 0 ≡ 0 → end d ≤ u32_max → length d < end d → Wants d (end d)

-- a refusal that more bytes do not lift
pub record Final (d : List ℕ) (c p : ℕ) : Type 0 where
  pub due : Refusal d c p
  pub not_empty : c ≡ 11 → ⊥
  pub not_short : c ≡ 13 → ⊥

-- WHEN EACH ANSWER IS DUE to the bytes received, n of which there is room for
pub data Says (n : ℕ) (got : List ℕ) : Answer → Type 0 where
  wanting : {w : ℕ} → length got ≤ n → Wants got w → Says n got (more (length got) w)
  overflowing : {w : ℕ} → n < length got → Wants (take n got) w → Says n got full
  accepted : {k e : ℕ} → Dictionary (take n got) k e → Says n got (accept (k ∷ e ∷ []))
  refused : {c p : ℕ} → Final (take n got) c p → Says n got (refuse c p)

-- PIECES, ONE AFTER ANOTHER, from one state and store to another: each step is any state and store that the call may leave
pub data Feeds : State → List ℕ → List (List ℕ) → State → List ℕ → Type 0 where
  no_more : {s : State} {store : List ℕ} → Feeds s store [] s store
  one_more : {s next last : State} {store after end : List ℕ} {piece : List ℕ} {pieces : List (List ℕ)}
      → FeedPromise store piece s next after → Feeds next after pieces last end → Feeds s store (piece ∷ pieces) last end

-- no fewer than k of the bytes settle the verdict
abbrev pub NoFewer : ℕ → List ℕ → Type 0
NoFewer k got = (m : ℕ) → m < k → unsettled (verdict (take m got)) ≡ true
