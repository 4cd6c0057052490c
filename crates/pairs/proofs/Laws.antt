-- The largest id, a pair a turn, and the first child that has no byte. Assumes nothing.
use Prim.Native.Nat.{max}
use Rattle.std.specs.Prelude.{Option, Some, None}
use Rattle.rules.proofs.Prelude.{◌≡◌, refl, List, ℕ, ◌+◌, ◌<◌, add-one}
use Rattle.source.specs.Pairs.{id, from, to}
use Rattle.pairs.specs.Checks.{largest}
use Rattle.pairs.specs.Meaning.{EmptyChild}

pub largest_more : (words : List ℕ) (k : ℕ) {m i : ℕ} → m ≡ largest words k → i ≡ id words k → max m i ≡ largest words (k + 1)
unfolding largest
largest_more words k e f = rw (add-one k, e, f)

pub largest_none : (words : List ℕ) → 0 ≡ largest words 0
unfolding largest
largest_none words = refl

-- of the pairs up to k all have bytes, or `empty` is the first that has none
abbrev pub Walked : List ℕ → ℕ → Option ℕ → Type 0
Walked words k None = (j : ℕ) → j < k → from words j < to words j
Walked words k (Some empty) = EmptyChild words empty
