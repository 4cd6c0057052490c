-- The proper beginnings of characters are those that `begins` tells. Assumes nothing.
use mathlib.Core.Path.{◌≡◌, refl, ap, ◌∙◌}
use mathlib.Core.Bool.{true, false, ◌&&◌}
use mathlib.Core.List.{List, [], ◌∷◌, ◌++◌}
use mathlib.Core.Logic.{◌↔◌}
use Prim.Native.Nat.{ℕ, zero, suc, ◌+◌, ◌-◌, ◌≤◌, ◌<◌}
use native.Mathlib.Numerals.{add-one}
use native.Mathlib.Omega.{arith}
use borrow.Author.Tests.{le-leb, lt-ltb, le-ltb, ltb-true}
use lib.Dec.{ltb}
use lib.ListN.{length, drop, get_or, drop_of_length-le, length-append, length-drop}
use lib.Seq.{drop-cons, take-length}
use Rattle.std.specs.Prelude.{Option, Some, None}
use Rattle.rules.specs.Rules.Test.{is}
use Rattle.rules.proofs.Laws.{false_true, both, unless}
use Rattle.leads.specs.declared.Lead.{Lead}
use Rattle.leads.specs.Table.{asks, lead_of}
use Rattle.chars.specs.Rfc3629.{Tails, Char, Begins, tails_of, begins_by, begins}
use Rattle.chars.specs.Rfc3629.Tails.{end, next}
use Rattle.chars.specs.Rfc3629.Char.{char_of}
use Rattle.leads.proofs.Table.{followed}
use Rattle.chars.proofs.Laws.{tails_length, tails_sound}

-- A PROPER BEGINNING.

-- bytes that fit have m further ones with which they fit
record Filled (l h n : ℕ) (s : List ℕ) (m : ℕ) : Type 0 where
  further : List ℕ
  many : length further ≡ m
  fits : Tails l h n (s ++ further)

fill : (l h : ℕ) → l ≤ h → (m : ℕ) → Filled l h m [] m
fill l h p zero = record { further = []; many = refl; fits = end }
fill l h p (suc m) =
    let f = fill 0x80 0xBF (omega arith) m in
    record { further = l ∷ f.further; many = ap suc f.many; fits = next {lo = l} {hi = h} {b = l} (omega arith) p f.fits }

filled : {l h n : ℕ} {s : List ℕ} → l ≤ h → Tails l h n s → (k m : ℕ) → k ≡ n + m → Filled l h k s m
filled {l} {h} p end k m e = let k-is : k ≡ m = omega arith in rw k-is (fill l h p m)
filled p (next u v r) zero m e = absurd (omega arith)
filled p (next u v r) (suc k) m e =
    let f = filled (omega arith) r k m (omega arith) in
    record { further = f.further; many = f.many; fits = next u v f.fits }

-- and where bytes fit, so do the first of them
front : {l h n : ℕ} (s t : List ℕ) → Tails l h n (s ++ t) → tails_of l h (length s) s ≡ true
unfolding tails_of
front [] t x = refl
front {l} {h} (b ∷ s) t (next p q r) = rw (le-leb l b p, le-leb b h q) (front s t r)

is_beginning : (s : List ℕ) → begins s ≡ true → Begins s
unfolding begins
is_beginning [] e = false_true e
is_beginning (a ∷ s) e = by_lead (lead_of a) refl e
  where
    by_lead : (x : Option Lead) → lead_of a ≡ x → begins_by x s ≡ true → Begins (a ∷ s)
    by_lead None l e = false_true e
    by_lead (Some x) l e =
        let u = both (ltb (length s) x.rest) _ e in
        let few = ltb-true (length s) x.rest u.0 in
        let fits : Tails x.lo x.hi (length s) s = rw take-length at (tails_sound x.lo x.hi (length s) s u.1).1 in
        let f = filled (followed l).some fits x.rest (x.rest - length s) (omega arith) in
        record { some = omega arith; further = f.further; at_least_one = omega (arith, f.many); whole = char_of l f.fits }

begins_one : (s : List ℕ) → Begins s → begins s ≡ true
unfolding begins
begins_one [] b = absurd (omega (arith, b.some))
begins_one (a ∷ s) b = by_char b.further b.at_least_one b.whole
  where
    by_char : (t : List ℕ) → 0 < length t → Char (a ∷ (s ++ t)) → begins_by (lead_of a) s ≡ true
    by_char t p (char_of {rest = n} l x) =
        let few : length s < n = omega (arith, length-append s t, tails_length x) in
        rw (l, lt-ltb (length s) n few) (front s t x)

-- THE THEOREM: the function decides it
pub begins_is : (s : List ℕ) → (begins s ≡ true) ↔ Begins s
begins_is s = (is_beginning s, begins_one s)

pub begins_not : (s : List ℕ) → (Begins s → ⊥) → begins s ≡ false
begins_not s n = unless (is (begins s)) (λ e. n (is_beginning s e))

-- What code goes by, at a place of the list.
module _ (at : ℕ) (s : List ℕ) where
  pub begins_end : length s ≤ at → begins (drop at s) ≡ false
  unfolding begins
  begins_end q = rw (drop_of_length-le s q)

  pub begins_bad : at < length s → lead_of (get_or s at 0) ≡ None → begins (drop at s) ≡ false
  unfolding begins
  begins_bad q e = rw (drop-cons s at 0 q, e)

  module _ {l h n : ℕ} (q : at < length s) (e : lead_of (get_or s at 0) ≡ asks l h n) where
    by_seq : begins (drop at s) ≡ (ltb (length s - at - 1) n && tails_of l h (length s - at - 1) (drop (at + 1) s))
    unfolding begins
    by_seq =
        let long : length (drop (suc at) s) ≡ length s - at - 1 = length-drop (suc at) s ∙ omega arith in
        rw (drop-cons s at 0 q, e, long, add-one at)

    pub begins_long : n ≤ length s - at - 1 → begins (drop at s) ≡ false
    begins_long p = by_seq ∙ rw (le-ltb (length s - at - 1) n p)

    pub begins_short : length s - at - 1 < n → begins (drop at s) ≡ tails_of l h (length s - at - 1) (drop (at + 1) s)
    begins_short p = by_seq ∙ rw (lt-ltb (length s - at - 1) n p)
