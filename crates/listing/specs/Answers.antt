-- Document 01's number, values and place for each case of the listing's answer. Assumes nothing.
use Rattle.std.specs.Prelude.{[], ◌∷◌, ℕ, Result, Ok, Err}
use Rattle.rules.specs.Rules.{Answer, refuse, accept}
use Rattle.layer.specs.Answers as layer
use Rattle.object.specs.declared.Accepted.{Accepted}
use Rattle.listing.specs.declared.Refusal.{Refusal}
use Rattle.listing.specs.declared.Refusal.TheVariants.{Layer, NoLength, NoRoom}

-- number and place of each refusal; the layer's keeps its own
abbrev pub refusal_number : Refusal → ℕ
refusal_number (Layer r) = layer.refusal_number r
refusal_number (NoLength k) = 43
refusal_number NoRoom = 41

abbrev pub refusal_place : Refusal → ℕ
refusal_place (Layer r) = layer.refusal_place r
refusal_place (NoLength k) = k
refusal_place NoRoom = 0

abbrev pub listing_numbers : Result Accepted Refusal → Answer
listing_numbers (Err r) = refuse (refusal_number r) (refusal_place r)
listing_numbers (Ok a) = accept (a.count ∷ a.start ∷ a.end ∷ [])
