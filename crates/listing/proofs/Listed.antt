-- The words of a listing: three a field in field order, its id, its start and its span.
-- The span is the child's own length. Assumes nothing.
use Rattle.rules.proofs.Prelude.{◌≡◌, List, ℕ, ◌+◌, ◌*◌, ◌≤◌, ◌<◌, add-zero, arith, get_or}
use Rattle.rules.proofs.Rows.{row_word}
use Rattle.std.specs.Prelude.{Ok}
use Rattle.lengths.specs.Lengths.{own_length}
use Rattle.lengths.proofs.Means.{exactly_when}
use Rattle.lengths.proofs.Appended.{some_bytes}
use Rattle.layer.specs.Object.{count, id, offset, start, end}
use Rattle.listing.specs.Words.{child, span, row, rows}
use Rattle.listing.specs.Meaning.{Listed}
use Rattle.listing.proofs.Laws.{span_inside}
use Rattle.listing.proofs.Rows.{row_three}

-- THE WORDS OF A FIELD

-- word j of field k
word : (o : List ℕ) (n k j : ℕ) → k < n → j < 3 → get_or (rows o n) (3 * k + j) 0 ≡ get_or (row o k) j 0
word o = row_word (row o) 3 (row_three o)

module _ (o : List ℕ) (n k : ℕ) (p : k < n) where
  pub id_word : get_or (rows o n) (3 * k) 0 ≡ id o k
  unfolding row
  id_word = rw add-zero at (word o n k 0 p (omega arith))

  pub start_word : get_or (rows o n) (3 * k + 1) 0 ≡ start o + offset o k
  unfolding row
  start_word = word o n k 1 p (omega arith)

  pub span_word : get_or (rows o n) (3 * k + 2) 0 ≡ span o k
  unfolding row
  span_word = word o n k 2 p (omega arith)

-- WHAT THE SPAN MEANS: of a listing, each field's child has an own length, which is its span, is a byte at least, and ends before the trimmed end
module _ (d o w : List ℕ) (n v e k : ℕ) (l : Listed d o w n v e) (p : k < n) where
  here : k < count o
  here = omega (arith, l.accepted.counts)

  pub own_length_law : own_length (child o k) ≡ Ok (span o k)
  own_length_law = (exactly_when (child o k) _).1 (l.spans k here)

  pub span_some : 0 < span o k
  span_some = some_bytes (child o k) (span o k) own_length_law

  pub span_ends : start o + offset o k + span o k ≤ end o
  span_ends = span_inside o k (l.accepted.offsets k here) l.accepted.named.headed.end_inside
