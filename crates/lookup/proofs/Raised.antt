-- A raise of the limit (document 02, request d): a lookup and the child answer the same under two limits that dictionary and object are
-- within. The calls' own promises are those under `limit`. Assumes nothing.
use Rattle.rules.proofs.Prelude.{◌≡◌, sym, ◌∙◌, List, ℕ}
use denote.Ref.{Bor}
use Rattle.std.specs.Prelude.{Option, Result}
use Rattle.layer.specs.declared.Refusal.{Refusal}
use Rattle.object.proofs.Raised.{Within, checks_alike}
use Rattle.lookup.specs.declared.Found.{Found}
use Rattle.lookup.specs.ByName.{lookup_within, start_of, end_of}
use Rattle.lookup.specs.Answers.{lookup_numbers, PartOf}
use Rattle.lookup.proofs.Pinned.{lookup_injective, part_pinned}

-- TWO LIMITS, and a dictionary and an object within both
module _ (a b : ℕ) (d o : List ℕ) (in-a : Within a d o) (in_b : Within b d o) where
  pub lookup_alike : (q : List ℕ) → lookup_within a d o q ≡ lookup_within b d o q
  unfolding lookup_within
  lookup_alike q = rw (checks_alike a b d o in-a in_b)

  -- the answers of the calls: a lookup, and the child as a part of the object
  pub get_alike : (q : List ℕ) (r r' : Result (Option Found) Refusal) → lookup_numbers r ≡ lookup_within a d o q → lookup_numbers r' ≡ lookup_within b d o q → r ≡ r'
  get_alike q r r' x y = lookup_injective r r' (x ∙ lookup_alike q ∙ sym y)

  pub child_alike : (q : List ℕ) (object r r' : Bor (List ℕ)) → PartOf object r (start_of (lookup_within a d o q)) (end_of (lookup_within a d o q))
      → PartOf object r' (start_of (lookup_within b d o q)) (end_of (lookup_within b d o q)) → (r.now ≡ r'.now) × (r.ref_ptr ≡ r'.ref_ptr)
  child_alike q object r r' x y = part_pinned object r r' _ _ (rw (lookup_alike q) at x) y
