-- Each public call's promise fixes its whole answer, and the lent marks after it: two that meet it are equal. Each answer is read back out of its
-- number, start and place, so no two cases have the same. Assumes nothing.
use Rattle.rules.proofs.Prelude.{◌≡◌, refl, sym, ◌∙◌, cond, List, [], ◌∷◌, ℕ, eqb, Answer, gives}
use Rattle.metadata.proofs.Pinned.{by_back, refusal_by as dictionary_by}
use Rattle.object.proofs.Pinned as object
use Rattle.list.specs.declared.Refusal.TheVariants as list-refusal
use Rattle.list.proofs.Pinned as list
use Rattle.leaf.specs.declared.Refusal.TheVariants as leaf
use Rattle.nodes.specs.declared.Refusal.{Refusal}
use Rattle.nodes.specs.declared.Refusal.TheVariants.{Layer, List as OfList, Leaf, TooDeep}
use Rattle.nodes.specs.Answers.{refusal_number, refusal_place}
use Rattle.std.specs.Prelude.{Result, Ok, Err}
use Rattle.nodes.specs.declared.Fault.{Fault}
use Rattle.marked.specs.Answers.{verdict_numbers}
use Rattle.marked.specs.Promises.{CheckAtPromise}
use Rattle.tree.specs.Promises.{CheckPromise, CheckWithPromise}

-- REFUSALS: number and place, read back
abbrev leaf_by : ℕ → Refusal
leaf_by c = cond (eqb c 50) (Leaf leaf.Short) (cond (eqb c 51) (Leaf leaf.Unknown) (cond (eqb c 54) (Leaf leaf.NotUtf8) TooDeep))

refusal_of : ℕ → ℕ → Refusal
refusal_of c p = object.refusal_by Layer (list.refusal_by OfList (leaf_by c) c p) c p

refusal_back : (r : Refusal) → refusal_of (refusal_number r) (refusal_place r) ≡ r
unfolding refusal_of object.refusal_by dictionary_by list.refusal_by
refusal_back (Layer r) = object.refusal_back Layer _ r
refusal_back (OfList list-refusal.Short) = refl
refusal_back (OfList list-refusal.Sum) = refl
refusal_back (OfList (list-refusal.Offset k)) = refl
refusal_back (Leaf leaf.Short) = refl
refusal_back (Leaf leaf.Unknown) = refl
refusal_back (Leaf leaf.NotUtf8) = refl
refusal_back TooDeep = refl

-- ANSWERS
verdict_back : Answer → Result ℕ Fault
verdict_back (gives c [] p) = Ok 0
verdict_back (gives c (a ∷ []) p) = Err (record { refusal = refusal_of c p; start = a })
verdict_back (gives c (a ∷ e ∷ x) p) = Ok e

verdict_back_law : (v : Result ℕ Fault) → verdict_back (verdict_numbers v) ≡ v
unfolding verdict_back
verdict_back_law (Err bad) = rw (refusal_back bad.refusal)
verdict_back_law (Ok e) = refl

-- THE THEOREMS, a call each
pub check_at_pinned : (depth : ℕ) (d v : List ℕ) (r q : Result ℕ Fault) → CheckAtPromise depth d v r → CheckAtPromise depth d v q → r ≡ q
check_at_pinned depth d v r q a b = by_back verdict_numbers verdict_back verdict_back_law r q (a ∙ sym b)

pub check_pinned : (d v : List ℕ) (r q : Result ℕ Fault) → CheckPromise d v r → CheckPromise d v q → r ≡ q
check_pinned d v = check_at_pinned 0 d v

pub check_with_pinned : (d v marks : List ℕ) (r q : Result ℕ Fault) (after after' : List ℕ) → CheckWithPromise d v marks r after → CheckWithPromise d v marks q after'
    → (r ≡ q) × (after ≡ after')
check_with_pinned d v marks r q after after' a b = (check_pinned d v r q a.answers b.answers, a.leaves ∙ sym b.leaves)
