-- The ids' width is the smallest that holds every id, the offsets' the smallest that holds the children's total length, and the count takes
-- four bytes exactly above 255 (document 02, k). Assumes nothing.
use Prim.Native.Nat.{◌^◌, max}
use native.Mathlib.Decide.{ℕ_discrete}
use native.Mathlib.Nat.{le-max_left, le-max_right, one-le-pow}
use Rattle.rules.proofs.Prelude.{◌≡◌, refl, ◌∙◌, List, ℕ, zero, suc, ◌-◌, ◌≤◌, ◌<◌, arith, lt-ltb, le-ltb, length, get_or, length-append}
use Rattle.dictionary.specs.Limits.{limit}
use Rattle.metadata.proofs.Fits.{accepted_small}
use Rattle.sets.specs.Sets.{Distinct, total}
use Rattle.source.specs.Pairs.{pairs, id}
use Rattle.lay.proofs.Laws.{joined_length}
use Rattle.pairs.specs.Checks.{pair_name, largest}
use Rattle.write.proofs.Smallest.{width_least}
use Rattle.builder.specs.Bytes.{fields, ids_of, count_width, lead, layout, id_width, offset_width, children, object, size}
use Rattle.builder.proofs.Fields.{ids_count, fields_count}
use Rattle.write_object.specs.Meaning.{Known}
use Rattle.layered.specs.Fields.{SmallestIds, SmallestOffsets, SmallestCount}

-- THE LARGEST ID is above all, and below all that are so

module _ (words : List ℕ) where
  pub largest_above : (n k : ℕ) → k < n → id words k ≤ largest words n
  unfolding largest
  largest_above zero k p = absurd (omega arith)
  largest_above (suc n) k p = go (ℕ_discrete k n) (largest_above n k)
    where
      go : Dec (k ≡ n) → (k < n → id words k ≤ largest words n) → id words k ≤ max (largest words n) (id words n)
      go (yes e) r = rw e (le-max_right (largest words n) (id words n))
      go (no e) r = omega (arith, r (omega arith), le-max_left (largest words n) (id words n))

  pub largest_least : (n m : ℕ) → ((k : ℕ) → k < n → id words k ≤ m) → largest words n ≤ m
  unfolding largest
  largest_least zero m h = omega arith
  largest_least (suc n) m h = omega (arith, largest_least n m (λ k p. h k (omega arith)), h n (omega arith))

-- THE THEOREMS

-- of pairs whose ids are entries
pub smallest_ids : (d words : List ℕ) → Known d words → SmallestIds words (id_width words)
unfolding id_width
smallest_ids d words known =
    let n = pairs words in
    let w = width_least (largest words n) in
    let small = accepted_small d known.over.accepted in
    let held : largest words n < 4294967296 =
    omega (arith, small.number, largest_least words n 4294967295 (λ k p. omega (arith, known.entries k p, small.number))) in
    record {
      some = w.some;
      few = w.few;
      fits = λ k p. omega (arith, w.holds held, largest_above words n k p);
      least = λ v p h. w.least v p (omega (arith, one-le-pow v 256 (omega arith), largest_least words n (256 ^ v - 1) (λ k q. omega (arith, h k q))));
    }

-- of a layer that the limit lets through
size_total : (d bytes words : List ℕ) → total (children d bytes words) ≤ size d bytes words
unfolding size object layout
size_total d bytes words = simp length-append (omega (arith, joined_length (children d bytes words)))

pub smallest_offsets : (d bytes words : List ℕ) → size d bytes words ≤ limit → SmallestOffsets (children d bytes words) (offset_width (children d bytes words))
unfolding offset_width limit
smallest_offsets d bytes words within =
    let w = width_least (total (children d bytes words)) in
    record { some = w.some; few = w.few; fits = w.holds (omega (arith, within, size_total d bytes words)); least = w.least }

-- of pairs with no name twice: there are as many fields
pub smallest_count : (d bytes words : List ℕ) → Distinct (pair_name d words) 0 (pairs words)
    → SmallestCount (pairs words) (get_or (object d bytes words) 0 0) (count_width (pairs words))
unfolding object layout lead count_width id_width offset_width
smallest_count d bytes words alone =
    let n = pairs words in
    let many : length (ids_of words (fields d words)) ≡ n = ids_count words (fields d words) ∙ fields_count d words alone in
    let wi = width_least (largest words n) in
    let wo = width_least (total (children d bytes words)) in
    record {
      long = λ p. rw (many, lt-ltb 0xFF n p) (refl, omega (arith, wi.some, wi.few, wo.some, wo.few));
      short = λ p. rw (many, le-ltb 0xFF n p) (refl, omega (arith, wi.some, wi.few, wo.some, wo.few));
    }
