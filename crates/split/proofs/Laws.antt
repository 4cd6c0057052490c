-- Laws of lines: the first one and the rest, and what the loop goes by. Assumes nothing.
use lib.ListN.{drop_of_length-le}
use lib.Seq.{length-sets}
use Rattle.rules.proofs.Prelude.{◌≡◌, refl, sym, ap, ◌∙◌, Bool, true, false, cond, List, [], ◌∷◌, ℕ, suc, ◌+◌, ◌-◌, ◌≤◌, ◌<◌, add-one, arith, length}
use Rattle.rules.proofs.Prelude.{take, drop, drop-drop, take_at, length-take, length-drop, set, sets, sets-eq, length-set}
use Rattle.put.proofs.Laws.{sets_append}
use Rattle.text.specs.Text.{before}
use Rattle.text.specs.Steps.{Reaches}
use Rattle.sets.specs.Sets.{total}
use Rattle.lay.specs.Bytes.{joined}
use Rattle.lay.proofs.Laws.{joined_length}
use Rattle.split.specs.declared.Names.{Names}
use Rattle.split.specs.Lines.{newline, with, lines_of, ends_of}
use Rattle.split.specs.Promises.{GatherPromise}

-- THE FIRST LINE, and the lines after its newline

abbrev FirstOf : List ℕ → ℕ → Type 0
FirstOf t n = lines_of t ≡ take n t ∷ lines_of (drop (suc n) t)

-- with a byte before it, where that is no newline
abbrev Longer : ℕ → List ℕ → Type 0
Longer b s = with b (lines_of s) ≡ (b ∷ take (before newline s) s) ∷ lines_of (drop (suc (before newline s)) s)

by_byte : (b : ℕ) (s : List ℕ) → Longer b s → FirstOf (b ∷ s) (before newline (b ∷ s))
unfolding lines_of before
by_byte b s e = go (newline b)
  where
    go : (t : Bool)
        → cond t ([] ∷ lines_of s) (with b (lines_of s)) ≡ take (cond t 0 (suc (before newline s))) (b ∷ s) ∷ lines_of (drop (suc (cond t 0 (suc (before newline s)))) (b ∷ s))
    go true = refl
    go false = e

first_line : (s : List ℕ) (b : ℕ) → FirstOf (b ∷ s) (before newline (b ∷ s))
unfolding lines_of before
first_line [] b = by_byte b [] refl
first_line (c ∷ s) b = by_byte b (c ∷ s) (rw (first_line s c))

first_of : (t : List ℕ) → 0 < length t → FirstOf t (before newline t)
first_of [] h = absurd (omega arith)
first_of (b ∷ s) h = first_line s b

-- at a place of the text
module _ (s : List ℕ) (at end : ℕ) (p : at < length s) (r : Reaches newline s at end) where
  pub next_line : (lines_of (drop at s) ≡ take (end - at) (drop at s) ∷ lines_of (drop (end + 1) s)) × (at ≤ end)
  next_line =
      let n : end - at ≡ before newline (drop at s) = omega (arith, r.is) in
      let e : at + suc (before newline (drop at s)) ≡ end + 1 = omega (arith, r.is) in
      (rw (n, ← e, ← drop-drop (suc (before newline (drop at s))) at s) (first_of (drop at s) (simp length-drop (omega arith))), omega (arith, r.is))

ends_count : (o : ℕ) (xs : List (List ℕ)) → length (ends_of o xs) ≡ length xs
unfolding ends_of
ends_count o [] = refl
ends_count o (x ∷ xs) = ap suc (ends_count (o + length x) xs)

-- WHAT IS LEFT makes the same of run and ends as the whole does

pub record Left (text lent_run lent_ends : List ℕ) (run ends : List ℕ) (at len count : ℕ) : Type 0 where
  pub run_to : sets run len (joined (lines_of (drop at text))) ≡ sets lent_run 0 (joined (lines_of text))
  pub ends_to : sets ends count (ends_of len (lines_of (drop at text))) ≡ sets lent_ends 0 (ends_of 0 (lines_of text))
  pub len_to : len + total (lines_of (drop at text)) ≡ total (lines_of text)
  pub count_to : count + length (lines_of (drop at text)) ≡ length (lines_of text)
  pub run_same : length run ≡ length lent_run
  pub ends_same : length ends ≡ length lent_ends
  pub inside : (len ≤ at) × (count ≤ at) × (len ≤ length text) × (count ≤ length text)

pub begins : (text run ends : List ℕ) → Left text run ends run ends 0 0 0
begins text run ends =
    record { run_to = refl; ends_to = refl; len_to = omega arith; count_to = omega arith; run_same = refl; ends_same = refl; inside = omega arith }

module _ {text lent_run lent_ends run ends : List ℕ} {at len count : ℕ} (l : Left text lent_run lent_ends run ends at len count) where
  -- a line more
  module _ (end : ℕ) (p : at < length text) (r : Reaches newline text at end) where
    line_length : length (take (end - at) (drop at text)) ≡ end - at
    line_length = simp (length-take, length-drop) (omega (arith, r.inside))

    pub within : (at ≤ end) × (end ≤ length text) × (len + (end - at) ≤ length text) × (count < length text)
    within = omega (arith, l.inside, (next_line text at end p r).1, r.inside)

    pub turn : Left text lent_run lent_ends (sets run len (take (end - at) (drop at text))) (set ends count (len + (end - at))) (end + 1) (len + (end - at)) (count + 1)
    unfolding joined ends_of total
    turn =
        let line = take (end - at) (drop at text) in
        let rest = lines_of (drop (end + 1) text) in
        let next = next_line text at end p r in
        let is = next.0 in
        let n : len + (end - at) ≡ len + length line = omega (arith, line_length) in
        record {
          run_to = rw (n, ← sets_append run len line (joined rest)) (rw is at l.run_to);
          ends_to = rw (n, add-one count) (rw is at l.ends_to);
          len_to = let e = rw is at l.len_to in omega (arith, e, line_length);
          count_to = let e = rw is at l.count_to in omega (arith, e);
          run_same = length-sets run len line ∙ l.run_same;
          ends_same = length-set ends count (len + (end - at)) ∙ l.ends_same;
          inside = omega (arith, l.inside, next.1, r.inside);
        }

  -- and none left
  module _ (p : length text ≤ at) where
    none_left : lines_of (drop at text) ≡ []
    unfolding lines_of
    none_left = rw (drop_of_length-le text p)

    pub ended : (r : Names) → r.len ≡ len → r.count ≡ count → length text ≤ length lent_run → length text ≤ length lent_ends
        → GatherPromise text lent_run lent_ends r run ends
    unfolding joined ends_of total
    ended r e f g h =
        let ls = lines_of text in
        let sum : len + 0 ≡ total ls = rw none_left at l.len_to in
        let number : count + 0 ≡ length ls = rw none_left at l.count_to in
        let bytes : 0 + length (joined ls) ≡ total ls = omega (arith, joined_length ls) in
        let words : 0 + length (ends_of 0 ls) ≡ length ls = omega (arith, ends_count 0 ls) in
        record {
          len_is = omega arith;
          count_is = omega arith;
          run_is = rw none_left at l.run_to ∙ rw bytes at (sets-eq (joined ls) lent_run 0 (omega (arith, l.inside, g)));
          ends_is = rw none_left at l.ends_to ∙ rw words at (sets-eq (ends_of 0 ls) lent_ends 0 (omega (arith, l.inside, h)));
        }

-- THE PARTS that hold them
module _ {text run ends run' ends' : List ℕ} {r : Names} (g : GatherPromise text run ends r run' ends') where
  pub run_part : take r.len run' ≡ joined (lines_of text)
  run_part = rw g.run_is (take_at (joined (lines_of text)) _ r.len (joined_length (lines_of text) ∙ sym g.len_is))

  pub ends_part : take r.count ends' ≡ ends_of 0 (lines_of text)
  ends_part = rw g.ends_is (take_at (ends_of 0 (lines_of text)) _ r.count (ends_count 0 (lines_of text) ∙ sym g.count_is))
