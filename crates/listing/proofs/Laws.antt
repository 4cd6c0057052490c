-- Where a child lies, and how far its span reaches. Assumes nothing.
use Rattle.rules.proofs.Prelude.{◌≡◌, List, ℕ, ◌+◌, ◌≤◌, arith, length}
use Rattle.part.specs.Part.{part}
use Rattle.part.proofs.Laws.{part_length}
use Rattle.lengths.proofs.Means.{bytes_at_hand}
use Rattle.layer.specs.Object.{offset, start, end}
use Rattle.layer.specs.Meaning.{InRegion}
use Rattle.layer.proofs.Laws.{end_is}
use Rattle.listing.specs.Words.{child, span}

module _ (o : List ℕ) (k : ℕ) where
  pub child_is : (a e : ℕ) → a ≡ start o + offset o k → e ≡ end o → part o a e ≡ child o k
  unfolding child
  child_is a e p q = rw (p, q)

  module _ (here : InRegion o k) (whole : end o ≤ length o) where
    -- a field's start plus its span is at most the trimmed end
    pub span_inside : start o + offset o k + span o k ≤ end o
    unfolding child span
    span_inside =
        omega (arith, bytes_at_hand (child o k), part_length o (start o + offset o k) (end o) (omega (arith, end_is o)) whole, end_is o)
