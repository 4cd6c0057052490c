-- The object's own readings are those of its layout, by the widths that its first byte says; its checks of the header are the layout's, with its
-- own numbers; and its own length as a value is the layer's trimmed end. Assumes nothing.
use Rattle.rules.proofs.Prelude.{◌≡◌, refl, ap, ◌∙◌, List, [], ◌∷◌, ℕ, ◌+◌, ◌≤◌, arith, length, get_or, first, ◌<?◌, ◌⇒◌at◌, goes, first_pass, ◌&◌}
use Rattle.rules.specs.Rules.Test.{◌≠?◌}
use Rattle.rules.proofs.Laws.{first_append}
use Rattle.dictionary.specs.Limits.{limit}
use Rattle.layout.specs.declared.Widths.{Widths}
use Rattle.layout.specs.Layout as layout
use Rattle.std.specs.Prelude.{Ok}
use Rattle.encoding.specs.declared.Header.TheVariants as header
use Rattle.encoding.specs.Encoding.{count_width as width_of, object_widths}
use Rattle.lengths.specs.Lengths.{bytes_by, own_length}
use Rattle.lengths.specs.Meaning.{Counted, Encoded}
use Rattle.lengths.specs.Meaning.Due.{measured}
use Rattle.encoding.proofs.Laws.{is_object}
use Rattle.lengths.proofs.Means.{exactly_when}
use Rattle.layer.specs.Object.{basic_type, offset_width, id_width, count_width, count, ids_start, id, offsets_start, offset, start, end, head_rules}
use Rattle.layer.specs.Meaning.{Layer}

module _ (o : List ℕ) where
  abbrev pub widths : Widths
  widths = object_widths (get_or o 0 0)

  -- READINGS
  pub offset_width_is : widths.offset ≡ offset_width o
  unfolding offset_width object_widths
  offset_width_is = refl

  pub id_width_is : widths.id ≡ id_width o
  unfolding id_width object_widths
  id_width_is = refl

  pub id_some : 1 ≤ widths.id
  unfolding object_widths
  id_some = omega arith

  pub ids_are : 1 + widths.count ≡ ids_start o
  unfolding ids_start count_width object_widths width_of
  ids_are = refl

  pub count_is : layout.count widths o ≡ count o
  unfolding count count_width object_widths width_of layout.count
  count_is = refl

  pub offsets_are : layout.offsets_start widths o ≡ offsets_start o
  unfolding offsets_start ids_start id_width count count_width object_widths width_of layout.offsets_start layout.count
  offsets_are = refl

  pub offset_is : (k : ℕ) → layout.offset widths o k ≡ offset o k
  unfolding offset offset_width offsets_start ids_start id_width count count_width object_widths width_of layout.offset layout.offsets_start layout.count
  offset_is k = refl

  pub start_is : layout.start widths o ≡ start o
  unfolding start offset_width offsets_start ids_start id_width count count_width object_widths width_of layout.start layout.offsets_start layout.count
  start_is = refl

  pub end_is : layout.end widths o ≡ end o
  unfolding end layout.end
  end_is = rw (start_is, count_is, offset_is (count o))

  -- THE CHECKS OF THE HEADER, after those of length and type, are the layout's, in its order
  pub rows_are : head_rules o ≡ (limit <? length o ⇒ 20 at 0) ∷ (length o <? 1 ⇒ 21 at 0) ∷ (basic_type o ≠? 2 ⇒ 22 at 0) ∷ layout.rules 23 24 23 widths o
  rows_are = rw (← ids_are, ← offsets_are, ← start_is, ← end_is)

  module _ (not_long : length o ≤ limit) (not_empty : 1 ≤ length o) (is_two : basic_type o ≡ 2) where
    pub then_laid : first (head_rules o) ≡ first (layout.rules 23 24 23 widths o)
    then_laid =
        let before = (limit <? length o ⇒ 20 at 0) ∷ (length o <? 1 ⇒ 21 at 0) ∷ (basic_type o ≠? 2 ⇒ 22 at 0) ∷ [] in
        ap first rows_are ∙ first_append before (layout.rules 23 24 23 widths o) ∙ goes _ (first_pass before (not_long & not_empty & is_two & tt))

  -- THE OWN LENGTH of an accepted layer is its trimmed end
  pub own_length_law : (d : List ℕ) (n v e : ℕ) → Layer d o n v e → own_length o ≡ Ok e
  unfolding basic_type bytes_by
  own_length_law d n v e l =
      let placed = l.named.headed.placed in
      let typed = placed.counted.typed in
      let a = ids_are in
      let b = offsets_are in
      let c = start_is in
      let f = end_is in
      let counted : Counted widths o = record { count_there = omega arith; offsets_fit = omega arith; start_fits = omega arith; offsets_there = omega arith } in
      let encoded : Encoded (header.Object widths) o e = record { headed = counted; bytes = omega arith; fits = omega arith; there = omega arith } in
      (exactly_when o (Ok e)).1 (measured typed.sized.not_empty (rw (← is_object (get_or o 0 0) typed.is_object) encoded))
