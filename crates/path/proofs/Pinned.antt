-- The call's promise fixes its whole answer, and both lent buffers after it: two answers that meet it are equal. An answer is read back out of
-- the documents' numbers, so no two cases have the same. Assumes nothing.
use Rattle.rules.proofs.Prelude.{◌≡◌, refl, sym, ◌∙◌, cond, eqb, List, [], ◌∷◌, ℕ, Answer, gives}
use Rattle.metadata.proofs.Pinned.{by_back, refusal_by as dictionary_by}
use Rattle.object.proofs.Pinned as object
use Rattle.list.specs.declared.Refusal.TheVariants as list-refusal
use Rattle.list.proofs.Pinned as list
use Rattle.parsing.specs.declared.Refusal.TheVariants as parsing
use Rattle.parsing.proofs.Pinned.{refusal_by as path_by}
use Rattle.strides.specs.declared.Refusal.TheVariants.{Layer, List as OfList, WrongKind}
use Rattle.std.specs.Prelude.{Option, Some, None, Result, Ok, Err}
use Rattle.lookup.specs.declared.Found.{Found}
use Rattle.path.specs.declared.Refusal.{Refusal}
use Rattle.path.specs.declared.Refusal.TheVariants.{Path, Step}
use Rattle.path.specs.Answers.{asked_numbers}
use Rattle.path.specs.Promises.{GetPromise}

-- WITHOUT VALUES: a refusal or absence, read back out of number and place
abbrev other_by : ℕ → ℕ → Result (Option Found) Refusal
other_by c p = path_by (λ r. Err (Path r)) (cond (eqb c 53) (Err (Step (WrongKind p))) (Ok None)) c

none_by : ℕ → ℕ → Result (Option Found) Refusal
none_by c p = object.refusal_by (λ r. Err (Step (Layer r))) (list.refusal_by (λ r. Err (Step (OfList r))) (other_by c p) c p) c p

asked_back : Answer → Result (Option Found) Refusal
asked_back (gives c [] p) = none_by c p
asked_back (gives c (k ∷ []) p) = Ok None
asked_back (gives c (k ∷ i ∷ []) p) = Ok None
asked_back (gives c (k ∷ i ∷ a ∷ []) p) = Ok None
asked_back (gives c (k ∷ i ∷ a ∷ e ∷ x) p) = Ok (Some (record { field = k; id = i; start = a; end = e }))

asked_back_law : (r : Result (Option Found) Refusal) → asked_back (asked_numbers r) ≡ r
unfolding asked_back none_by object.refusal_by dictionary_by list.refusal_by path_by
asked_back_law (Err (Path parsing.NotUtf8)) = refl
asked_back_law (Err (Path parsing.LeadingDot)) = refl
asked_back_law (Err (Path parsing.TrailingDot)) = refl
asked_back_law (Err (Path parsing.Unexpected)) = refl
asked_back_law (Err (Path parsing.Unclosed)) = refl
asked_back_law (Err (Path parsing.Bracket)) = refl
asked_back_law (Err (Path parsing.NoRoom)) = refl
asked_back_law (Err (Step (Layer r))) = object.refusal_back (λ q. Err (Step (Layer q))) _ r
asked_back_law (Err (Step (OfList list-refusal.Short))) = refl
asked_back_law (Err (Step (OfList list-refusal.Sum))) = refl
asked_back_law (Err (Step (OfList (list-refusal.Offset k)))) = refl
asked_back_law (Err (Step (WrongKind n))) = refl
asked_back_law (Ok None) = refl
asked_back_law (Ok (Some s)) = refl

-- THE THEOREM
pub get_pinned : (d v path names words : List ℕ) (r q : Result (Option Found) Refusal) (names' names'' words' words'' : List ℕ)
    → GetPromise d v path names words r names' words' → GetPromise d v path names words q names'' words'' → (r ≡ q) × (names' ≡ names'') × (words' ≡ words'')
get_pinned d v path names words r q names' names'' words' words'' a b = (
  by_back asked_numbers asked_back asked_back_law r q (a.says ∙ sym b.says),
  a.names_left ∙ sym b.names_left,
  a.words_left ∙ sym b.words_left,
)
