-- What the steps of the header's check answer each other, in the words of Object.antt. Assumes nothing.
use Rattle.std.specs.Prelude.{◌≡◌, List, ℕ, ◌≤◌, length, get_or, Result, Ok, Err}
use Rattle.rules.specs.Rules.{Found, first, Passed}
use Rattle.rules.specs.Rules.Found.{stop}
use Rattle.dictionary.specs.Limits.{limit}
use Rattle.layout.specs.declared.Widths.{Widths}
use Rattle.layout.specs.Steps.{Few}
use Rattle.encoding.specs.Encoding.{object_widths}
use Rattle.layer.specs.declared.Refusal.{Refusal}
use Rattle.layer.specs.declared.Layer.{Layer}
use Rattle.layer.specs.Object.{basic_type, offset_width, id_width, count, ids_start, offsets_start, start, end, head_rules}
use Rattle.layer.specs.Answers.{refusal_number, refusal_place}

abbrev pub stop_of : Refusal → Found
stop_of r = stop (refusal_number r) (refusal_place r)

-- byte 0: w has the widths that it says, of an object whose checks before them passed
pub record LeadOf (o : List ℕ) (w : Widths) : Type 0 where
  pub not_long : length o ≤ limit
  pub not_empty : 1 ≤ length o
  pub is_object : basic_type o ≡ 2
  pub widths_are : w ≡ object_widths (get_or o 0 0)
  pub few : Few w

-- the numbers of a header whose checks passed
pub record LayerOf (o : List ℕ) (l : Layer) : Type 0 where
  pub passes : Passed (head_rules o)
  pub id_width_is : l.id_width ≡ id_width o
  pub id_some : 1 ≤ l.id_width
  pub id_few : l.id_width ≤ 4
  pub offset_width_is : l.offset_width ≡ offset_width o
  pub offset_some : 1 ≤ l.offset_width
  pub offset_few : l.offset_width ≤ 4
  pub count_is : l.count ≡ count o
  pub ids_is : l.ids ≡ ids_start o
  pub offsets_is : l.offsets ≡ offsets_start o
  pub start_is : l.start ≡ start o
  pub end_is : l.end ≡ end o
  pub rises : l.start ≤ l.end

abbrev pub HeadOf : List ℕ → Result Layer Refusal → Type 0
HeadOf o (Err r) = first (head_rules o) ≡ stop_of r
HeadOf o (Ok l) = LayerOf o l
