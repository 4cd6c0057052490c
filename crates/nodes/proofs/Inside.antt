-- The children of an object or a list whose own checks passed lie within it; and such a container has an own length. Assumes nothing.
use Rattle.rules.proofs.Prelude.{◌≡◌, refl, ap, ◌∙◌, List, ℕ, ◌+◌, ◌≤◌, ◌<◌, arith, length, get_or, Passed, pass}
use Rattle.std.specs.Prelude.{Ok}
use Rattle.layout.specs.declared.Widths.{Widths}
use Rattle.layout.specs.Layout as layout
use Rattle.layout.specs.Layout.{count, child_start, end}
use Rattle.layout.proofs.Laws.{end_is}
use Rattle.encoding.specs.declared.Header.TheVariants as header
use Rattle.lengths.specs.Lengths.{own_length, bytes_by}
use Rattle.lengths.specs.Meaning.{Counted, Encoded}
use Rattle.encoding.proofs.Laws.{object_says}
use Rattle.lengths.specs.Meaning.Due.{measured}
use Rattle.lengths.proofs.Means.{known, exactly_when}
use Rattle.dictionary.specs.Limits.{limit}
use Rattle.layer.specs.Object as object
use Rattle.layer.specs.Object.{basic_type, head_rules}
use Rattle.layer.proofs.Alike as alike
use Rattle.layer.proofs.Laws as object-laws
use Rattle.object.proofs.Means as object-means
use Rattle.list.specs.List as list
use Rattle.list.proofs.Laws as list-laws
use Rattle.nodes.specs.Tree.{field_end, element_end}
use Rattle.nodes.specs.Meaning.{head_of}

-- AN OBJECT
module _ (s : List ℕ) {w : Widths} (is : head_of s ≡ header.Object w) where
  pub widths_are : w ≡ alike.widths s
  widths_are = (object_says (get_or s 0 0) w is).1

  pub is_two : basic_type s ≡ 2
  unfolding basic_type
  is_two = (object_says (get_or s 0 0) w is).0

  -- its layout's numbers are its own
  pub count_is : count w s ≡ object.count s
  count_is = rw widths_are (alike.count_is s)

  pub start_is : layout.start w s ≡ object.start s
  start_is = rw widths_are (alike.start_is s)

  pub end_of : end w s ≡ object.end s
  end_of = rw widths_are (alike.end_is s)

  pub offset_is : (k : ℕ) → layout.offset w s k ≡ object.offset s k
  offset_is k = rw widths_are (alike.offset_is s k)

  -- an own length says that its header passes
  pub header_passes : {n : ℕ} → length s ≤ limit → own_length s ≡ Ok n → Passed (head_rules s)
  unfolding bytes_by
  header_passes {n} l e =
      let k = known s n e in
      let some = k.0 in
      let encoded : Encoded (header.Object (alike.widths s)) s n = rw (is ∙ ap header.Object widths_are) at k.1 in
      let c : Counted (alike.widths s) s = encoded.headed in
      let a = alike.ids_are s in
      let b = alike.offsets_are s in
      let v = alike.start_is s in
      let f = alike.end_is s in
      let two = is_two in
      omega (arith, c, encoded.bytes, encoded.fits, encoded.there)

  -- which is that of its layout
  pub laid : Passed (head_rules s) → Passed (layout.rules 0 0 0 w s)
  laid h = rw widths_are (omega (arith, alike.ids_are s, alike.offsets_are s, alike.start_is s, alike.end_is s))

  module _ (d : List ℕ) (passes : object.checks d s ≡ pass) where
    -- and so does passing
    pub object_measured : own_length s ≡ Ok (end w s)
    object_measured = rw end_of (alike.own_length_law s d _ _ _ (object-means.good d s passes))

    pub field_rises : (k : ℕ) → k < count w s → child_start w s k ≤ field_end w s k
    field_rises k p =
        let region = object-laws.in_region d s passes k (omega (arith, count_is)) in
        omega (arith, start_is, end_of, offset_is k, object-laws.end_is s)

    pub object_inside : end w s ≤ length s
    object_inside = omega (arith, end_of, object-means.good d s passes)

-- A LIST
module _ (s : List ℕ) {w : Widths} (is : head_of s ≡ header.List w) where
  pub list_header : {n : ℕ} → own_length s ≡ Ok n → Passed (layout.rules 0 0 0 w s)
  unfolding bytes_by
  list_header {n} e =
      let encoded : Encoded (header.List w) s n = rw is at (known s n e).1 in
      omega (arith, encoded.headed, encoded.bytes, encoded.fits, encoded.there)

  module _ (passes : list.checks w s ≡ pass) where
    pub list_measured : own_length s ≡ Ok (end w s)
    unfolding bytes_by
    list_measured =
        let h = list-laws.passes w s passes in
        let counted : Counted w s = record { count_there = omega arith; offsets_fit = omega arith; start_fits = omega arith; offsets_there = omega arith } in
        let encoded : Encoded (header.List w) s (end w s) = record { headed = counted; bytes = refl; fits = omega arith; there = omega arith } in
        (exactly_when s (Ok (end w s))).1 (measured (omega arith) (rw is encoded))

-- its elements
module _ (s : List ℕ) (w : Widths) (passes : list.checks w s ≡ pass) where
  pub element_rises : (k : ℕ) → k < count w s → child_start w s k ≤ element_end w s k
  element_rises k p = let r = list-laws.rising w s passes k p in omega arith

  pub element_inside : (k : ℕ) → k < count w s → element_end w s k ≤ end w s
  element_inside k p = omega (arith, end_is w s, list-laws.inside w s passes (k + 1) (omega arith))

  pub list_inside : end w s ≤ length s
  list_inside = omega (arith, list-laws.passes w s passes)
