-- `pairs::check_children` meets its contract: the first range that is bad, or the first empty child. Assumes nothing.
use Rattle.rules.proofs.Prelude.{◌≡◌, ◌⊎◌, inl, inr, List, ℕ, ◌<◌, dec_lt, arith, length}
use Rattle.source.specs.Pairs.{from, to}
use Rattle.source.specs.Names.{GoodRange}
use Rattle.pairs.proofs.Means.{ranges_good, ranges_bad, empties_good, empties_bad}
use Rattle.pairs.proofs.check_children.Goals as goal

-- a range that is not good falls or passes the bytes
outside : (bytes words : List ℕ) (k : ℕ) → (GoodRange bytes words k → ⊥) → (to words k < from words k) ⊎ (length bytes < to words k)
outside bytes words k h = go (dec_lt (to words k) (from words k)) (dec_lt (length bytes) (to words k))
  where
    go : Dec (to words k < from words k) → Dec (length bytes < to words k) → (to words k < from words k) ⊎ (length bytes < to words k)
    go (yes p) d = inl p
    go (no p) (yes q) = inr q
    go (no p) (no q) = absurd (h record { rises = omega arith; inside = omega arith })

pub returns-in-Err-Outside : goal.returns-in-Err-Outside
returns-in-Err-Outside c =
    let a = c.args in
    let bad = rw (c.in-Err-Outside.is, c.in-Err-Outside.field-0-is) at c.judge.ensures in
    (ranges_bad _ _ _).1 record { is_pair = omega arith; is_first = c.loop-k.invariant.ranges; is_bad = outside a.bytes.now a.words.now c.loop-k.k bad }

pub returns-in-Some : goal.returns-in-Some
returns-in-Some c =
    let l = c.loop-k in
    let all : l.k ≡ _ = omega arith in
    ((ranges_good _ _).1 (rw all at l.invariant.ranges), (empties_bad _ _).1 (rw c.in-Some.is at l.invariant.empties))

pub returns-in-None : goal.returns-in-None
returns-in-None c =
    let l = c.loop-k in
    let all : l.k ≡ _ = omega arith in
    ((ranges_good _ _).1 (rw all at l.invariant.ranges), (empties_good _).1 (rw (c.in-None.is, all) at l.invariant.empties))
