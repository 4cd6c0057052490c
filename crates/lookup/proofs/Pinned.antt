-- Each public call's promise fixes its whole answer: two answers that meet it are equal. Answers are read back out of their numbers, so no
-- two cases have the same. Assumes nothing.
use Rattle.rules.proofs.Prelude.{◌≡◌, refl, sym, ◌∙◌, List, [], ◌∷◌, ℕ, Answer, gives}
use denote.Ref.{Bor}
use Rattle.std.specs.Prelude.{Option, Some, None, Result, Ok, Err}
use Rattle.layer.specs.declared.Refusal.{Refusal}
use Rattle.metadata.proofs.Pinned.{refusal_by as dictionary_by, by_back}
use Rattle.object.proofs.Pinned.{refusal_by, refusal_back}
use Rattle.lookup.specs.declared.Found.{Found}
use Rattle.lookup.specs.Answers.{lookup_numbers, PartOf}
use Rattle.lookup.specs.Promises.{GetPromise, ChildPromise}

lookup_back : Answer → Result (Option Found) Refusal
lookup_back (gives c (k ∷ i ∷ a ∷ e ∷ x) p) = Ok (Some (record { field = k; id = i; start = a; end = e }))
lookup_back (gives c (k ∷ i ∷ a ∷ []) p) = Ok None
lookup_back (gives c (k ∷ i ∷ []) p) = Ok None
lookup_back (gives c (k ∷ []) p) = Ok None
lookup_back (gives c [] p) = refusal_by Err (Ok None) c p

lookup_back_law : (v : Result (Option Found) Refusal) → lookup_back (lookup_numbers v) ≡ v
unfolding lookup_back refusal_by dictionary_by
lookup_back_law (Err r) = refusal_back Err (Ok None) r
lookup_back_law (Ok None) = refl
lookup_back_law (Ok (Some f)) = refl

pub lookup_injective : (v u : Result (Option Found) Refusal) → lookup_numbers v ≡ lookup_numbers u → v ≡ u
lookup_injective = by_back lookup_numbers lookup_back lookup_back_law

pub get_pinned : (d o q : List ℕ) (r r' : Result (Option Found) Refusal) → GetPromise d o q r → GetPromise d o q r' → r ≡ r'
get_pinned d o q r r' a b = lookup_injective r r' (a ∙ sym b)

-- the part's bytes, and the place where it starts
pub part_pinned : (whole r r' : Bor (List ℕ)) (from to : ℕ) → PartOf whole r from to → PartOf whole r' from to → (r.now ≡ r'.now) × (r.ref_ptr ≡ r'.ref_ptr)
part_pinned whole r r' from to a b = (a.bytes ∙ sym b.bytes, a.place ∙ sym b.place)

pub child_pinned : (d : List ℕ) (object : Bor (List ℕ)) (q : List ℕ) (r r' : Bor (List ℕ)) → ChildPromise d object q r → ChildPromise d object q r'
    → (r.now ≡ r'.now) × (r.ref_ptr ≡ r'.ref_ptr)
child_pinned d object q r r' a b = part_pinned object r r' _ _ a b
