-- What the call promises, once for its `ensures` and for proofs/Pinned.antt; and what its step does. Assumes nothing.
use Rattle.std.specs.Prelude.{◌≡◌, List, ℕ, ◌≤◌, ◌%◌, length, get_or, Option, Result}
use Rattle.part.specs.declared.Span.{Span}
use Rattle.dictionary.specs.Limits.{limit}
use Rattle.layout.specs.declared.Widths.{Widths}
use Rattle.elements.specs.declared.Refusal.{Refusal}
use Rattle.elements.specs.Element.{widths, element}
use Rattle.elements.specs.Answers.{element_numbers}

abbrev pub GetPromise : List ℕ → ℕ → Result (Option Span) Refusal → Type 0
GetPromise v n r = element_numbers n r ≡ element v n

-- a list within the limit, by its header byte
pub record Lead (v : List ℕ) (w : Widths) : Type 0 where
  pub not_long : length v ≤ limit
  pub not_empty : 1 ≤ length v
  pub is_list : get_or v 0 0 % 4 ≡ 3
  pub widths_are : w ≡ widths v
