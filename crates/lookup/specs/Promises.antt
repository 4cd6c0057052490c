-- What each public call promises, once for its `ensures` and for proofs/Pinned.antt. Assumes nothing.
use Rattle.std.specs.Prelude.{◌≡◌, List, ℕ, Option, Result}
use Rattle.std.specs.Borrow.{Bor}
use Rattle.layer.specs.declared.Refusal.{Refusal}
use Rattle.lookup.specs.declared.Found.{Found}
use Rattle.lookup.specs.ByName.{lookup, start_of, end_of}
use Rattle.lookup.specs.Answers.{lookup_numbers, PartOf}

abbrev pub GetPromise : List ℕ → List ℕ → List ℕ → Result (Option Found) Refusal → Type 0
GetPromise d o q r = lookup_numbers r ≡ lookup d o q

-- the part of the object where the lookup's child lies, by its bytes and its place
abbrev pub ChildPromise : List ℕ → Bor (List ℕ) → List ℕ → Bor (List ℕ) → Type 0
ChildPromise d object q r = PartOf object r (start_of (lookup d object.now q)) (end_of (lookup d object.now q))
