-- Documents 01 and 02's number, values and place for each case of the answer to one index. Assumes nothing.
use Rattle.std.specs.Prelude.{[], ◌∷◌, ℕ, Option, Some, None, Result, Ok, Err}
use Rattle.rules.specs.Rules.{Answer, accept, refuse}
use Rattle.rules.specs.Rules.Answer.{gives}
use Rattle.part.specs.declared.Span.{Span}
use Rattle.list.specs.Answers as list
use Rattle.elements.specs.declared.Refusal.{Refusal}
use Rattle.elements.specs.declared.Refusal.TheVariants.{TooLong, Empty, BasicType, List}

abbrev pub refusal_number : Refusal → ℕ
refusal_number TooLong = 20
refusal_number Empty = 21
refusal_number BasicType = 22
refusal_number (List r) = list.refusal_number r

abbrev pub refusal_place : Refusal → ℕ
refusal_place TooLong = 0
refusal_place Empty = 0
refusal_place BasicType = 0
refusal_place (List r) = list.refusal_place r

abbrev pub refused : Refusal → Answer
refused r = refuse (refusal_number r) (refusal_place r)

abbrev pub element_numbers : ℕ → Result (Option Span) Refusal → Answer
element_numbers n (Err r) = refused r
element_numbers n (Ok None) = gives 1 [] 0
element_numbers n (Ok (Some p)) = accept (n ∷ 0 ∷ p.start ∷ p.end ∷ [])
