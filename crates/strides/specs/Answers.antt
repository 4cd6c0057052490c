-- The documents' number, values and place for each case of a step's answer. Assumes nothing.
use Rattle.std.specs.Prelude.{[], ◌∷◌, ℕ, Option, Some, None, Result, Ok, Err}
use Rattle.rules.specs.Rules.{Answer, accept, refuse}
use Rattle.layer.specs.Answers as layer
use Rattle.list.specs.Answers as list
use Rattle.lookup.specs.ByName.{absent}
use Rattle.strides.specs.declared.Refusal.{Refusal}
use Rattle.strides.specs.declared.Refusal.TheVariants.{Layer, List, WrongKind}
use Rattle.lookup.specs.declared.Found.{Found}

abbrev pub refusal_number : Refusal → ℕ
refusal_number (Layer r) = layer.refusal_number r
refusal_number (List r) = list.refusal_number r
refusal_number (WrongKind n) = 53

abbrev pub refusal_place : Refusal → ℕ
refusal_place (Layer r) = layer.refusal_place r
refusal_place (List r) = list.refusal_place r
refusal_place (WrongKind n) = n

abbrev pub refused : Refusal → Answer
refused r = refuse (refusal_number r) (refusal_place r)

abbrev pub stride_numbers : Result (Option Found) Refusal → Answer
stride_numbers (Err r) = refused r
stride_numbers (Ok None) = absent
stride_numbers (Ok (Some s)) = accept (s.field ∷ s.id ∷ s.start ∷ s.end ∷ [])
