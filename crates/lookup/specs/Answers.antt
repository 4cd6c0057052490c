-- Document 01's number, values and place for each case of the lookup's answer; and what a part is that is handed back. Assumes nothing.
use Rattle.std.specs.Prelude.{◌≡◌, List, [], ◌∷◌, ℕ, ◌+◌, Option, Some, None, Result, Ok, Err}
use Rattle.std.specs.Borrow.{Bor}
use Rattle.part.specs.Part.{part}
use Rattle.rules.specs.Rules.{Answer, accept}
use Rattle.layer.specs.declared.Refusal.{Refusal}
use Rattle.layer.specs.Answers.{refused}
use Rattle.lookup.specs.ByName.{absent}
use Rattle.lookup.specs.declared.Found.{Found}

abbrev pub lookup_numbers : Result (Option Found) Refusal → Answer
lookup_numbers (Err r) = refused r
lookup_numbers (Ok None) = absent
lookup_numbers (Ok (Some f)) = accept (f.field ∷ f.id ∷ f.start ∷ f.end ∷ [])

-- A PART THAT IS HANDED BACK: its bytes, and the place where it starts, an empty part's too
pub record PartOf (whole r : Bor (List ℕ)) (from to : ℕ) : Type 0 where
  pub bytes : r.now ≡ part whole.now from to
  pub place : r.ref_ptr ≡ (whole.ref_ptr.0, from + whole.ref_ptr.1)
