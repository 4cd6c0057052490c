-- Whether two names are the same, eight bytes at a time. Assumes nothing.
use mathlib.Core.Path.{◌≡◌, sym, ap, ◌∙◌}
use mathlib.Core.Bool.{true, false}
use mathlib.Core.List.{List}
use Prim.Native.Nat.{ℕ, ◌+◌, ◌≤◌}
use native.Mathlib.Decide.{ℕ_discrete}
use native.Mathlib.Omega.{arith}
use borrow.Author.Tests.{eq-eqb, ne_eqb}
use lib.Dec.{eqb}
use lib.ListN.{length}
use Rattle.eights.specs.Steps.{Raw, Alike, Decides}
use Rattle.eights.proofs.Words.{Octets, le_alike}
use Rattle.names.specs.Search.{same}
use Rattle.names.proofs.Laws.{compare_equal, compare_end}
use Rattle.names.proofs.Words.{alike_rest}
use Rattle.names.proofs.Search.{same_is, not_same}

module _ (s t : List ℕ) where
  -- of one length, and the same so far
  pub all_same : (n : ℕ) → length s ≡ n → length t ≡ n → Alike s t n → same s t ≡ true
  all_same n e h a =
      same_is s t (compare_equal s t (alike_rest s t n (omega arith) (omega arith) a ∙ compare_end s t n (omega arith) (omega arith)))

  pub lengths_differ : (length s ≡ length t → ⊥) → same s t ≡ false
  lengths_differ n = not_same s t (λ e. n (ap length e))

  module _ (i p q : ℕ) (a : Raw s i p) (b : Raw t i q) where
    pub raws_differ : (p ≡ q → ⊥) → same s t ≡ false
    raws_differ n = not_same s t (λ e. n (a.is ∙ rw e (sym b.is)))

    pub raws_same : Octets s → Octets t → p ≡ q → i + 8 ≤ length s → i + 8 ≤ length t → Alike s t i → Alike s t (i + 8)
    raws_same f g e u v so_far =
        let law = le_alike s t f g 4 in
        let low = law i (omega arith) (omega arith) (omega (arith, a.is, a.fits, b.is, b.fits)) so_far in
        λ k r. law (i + 4) (omega arith) (omega arith) (omega (arith, a.is, a.fits, b.is, b.fits)) low k (omega arith)

    -- the eight bytes that decide
    pub raws_tell : Octets s → Octets t → (n : ℕ) → length s ≡ n → length t ≡ n → Decides s t n i → eqb p q ≡ same s t
    raws_tell f g n e h d = go (ℕ_discrete p q)
      where
        go : Dec (p ≡ q) → eqb p q ≡ same s t
        go (yes z) =
            let all = raws_same f g z (omega (arith, d.inside)) (omega (arith, d.inside)) d.alike in
            eq-eqb p q z ∙ sym (all_same n e h (λ k r. all k (omega (arith, d.last all))))
        go (no z) = ne_eqb p q z ∙ sym (raws_differ z)
