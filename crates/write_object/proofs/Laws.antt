-- What the writer's steps go by: the sizes, the answers, the room. Assumes nothing.
use Prim.Native.Nat.{max}
use Rattle.std.specs.Prelude.{Option, Result, Ok, Err}
use Rattle.std.specs.Borrow.{Bor}
use Rattle.rules.proofs.Prelude.{◌≡◌, refl, sym, ap, ◌∙◌, Bool, List, ℕ, ◌+◌, ◌≤◌, ◌<◌, arith, length, sets, sets-eq, ◌&◌}
use Rattle.rules.proofs.Prelude.{refuse, Found, pass, stop, ◌or_else◌, first_at, first_pass, refused, answered, stops, goes}
use Rattle.dictionary.specs.Limits.{limit}
use Rattle.dictionary.specs.declared.Header.{Header}
use Rattle.dictionary.specs.Dictionary as dictionary
use Rattle.dictionary.specs.Steps.{HeaderOf}
use Rattle.sets.specs.Sets.{Distinct, total}
use Rattle.source.specs.declared.Source.TheVariants as source
use Rattle.source.specs.Names.{name_of, count_of, Entries, Over, Sound}
use Rattle.pick.specs.Pick.{SortedOf}
use Rattle.pick.proofs.Laws.{sorted_by}
use Rattle.doubles.specs.Doubles as doubles
use Rattle.doubles.specs.Steps.{Single}
use Rattle.doubles.proofs.Means.{good}
use Rattle.source.specs.Pairs.{pairs}
use Rattle.lay.specs.Bytes.{width_of}
use Rattle.lay.specs.Steps.{SizesOf}
use Rattle.lay.proofs.Laws.{width_some, width_few}
use Rattle.pairs.specs.declared.ChildRefusal.{ChildRefusal}
use Rattle.pairs.specs.declared.ChildRefusal.TheVariants as child
use Rattle.pairs.specs.Checks.{pair_name, largest, range_checks, empty_checks}
use Rattle.pairs.specs.Steps.{ChildrenOf}
use Rattle.builder.specs.Bytes.{fields, ids_of, children, start_for, layout, id_width, offset_width, object, start, size}
use Rattle.builder.specs.Steps.{Ready, Laid}
use Rattle.builder.proofs.Laws.{layout_length, ids_all, children_all, start_above}
use Rattle.write_object.specs.declared.Built.{Built}
use Rattle.write_object.specs.declared.Refusal.{Refusal}
use Rattle.write_object.specs.Writing.{size_checks, checks, written, room_after}
use Rattle.write_object.specs.Answers.{built_numbers}
use Rattle.write_object.specs.Promises.{ObjectPromise}
use Rattle.write_object.specs.Steps.{Left, of_child}

-- SIZES

module _ (d bytes words : List ℕ) (alone : Distinct (pair_name d words) 0 (pairs words)) where
  pub size_is : size d bytes words ≡ start d bytes words + total (children d bytes words)
  unfolding size object start
  size_is =
      let ids = ids_all d bytes words alone in
      let wo = offset_width (children d bytes words) in
      layout_length (id_width words) wo (ids_of words (fields d words)) (children d bytes words) (children_all d bytes words alone ∙ sym ids)
      ∙ ap (λ (n : ℕ). start_for (id_width words) wo n + total (children d bytes words)) ids

  -- children that are too many or too long make it too long
  pub children_long : limit < max (length (children d bytes words)) (total (children d bytes words)) → limit < size d bytes words
  unfolding start id_width offset_width
  children_long h =
      let wo = width_of (total (children d bytes words)) in
      let above = start_above (width_of (largest words (pairs words))) wo (pairs words) (width_some (total (children d bytes words))) in
      omega (arith, h, size_is, children_all d bytes words alone, above)

  -- what was measured, and the widths for it
  module _ {count sum most : ℕ} (s : SizesOf (children d bytes words) count sum) (m : most ≡ largest words (pairs words)) {wi wo : ℕ} (e : wi ≡ width_of most) (f : wo ≡ width_of sum) where
    pub count_is : count ≡ pairs words
    count_is = s.count_is ∙ children_all d bytes words alone

    wi_is : wi ≡ id_width words
    unfolding id_width
    wi_is = e ∙ ap width_of m

    wo_is : wo ≡ offset_width (children d bytes words)
    unfolding offset_width
    wo_is = f ∙ ap width_of s.sum_is

    pub widths_small : (1 ≤ wi) × (wi ≤ 4) × (1 ≤ wo) × (wo ≤ 4) × (count ≤ limit)
    widths_small = omega (arith, e, f, width_some most, width_few most, width_some sum, width_few sum, s.few)

    pub start_is : start_for wi wo count ≡ start d bytes words
    unfolding start
    start_is = rw (wi_is, wo_is, count_is)

    pub length_is : {v : ℕ} → v ≡ start_for wi wo count → v + sum ≡ size d bytes words
    length_is g = omega (arith, g, start_is, s.sum_is, size_is)

    pub layout_is : layout wi wo (ids_of words (fields d words)) (children d bytes words) ≡ object d bytes words
    unfolding object
    layout_is = rw (wi_is, wo_is)

    pub laid : (room : List ℕ) {v : ℕ} → v ≡ start_for wi wo count → size d bytes words ≤ length room → Laid wi wo d bytes words room count v
    laid room g p =
        record {
          ids_some = widths_small.0;
          ids_few = widths_small.1;
          offsets_some = widths_small.2;
          offsets_few = widths_small.3;
          count_is = count_is;
          region_is = g ∙ ap (start_for wi wo) count_is;
          fits = omega (arith, p, length_is g, s.sum_is);
        }

-- THE ANSWER, by the checks that are left

pub too_long : (needed : ℕ) (room : List ℕ) → limit < needed → size_checks needed room ≡ stop 20 0
unfolding size_checks
too_long needed room h = first_at 0 _ h

pub no_room : (needed : ℕ) (room : List ℕ) → needed ≤ limit → length room < needed → size_checks needed room ≡ stop 46 0
unfolding size_checks
no_room needed room h k = first_at 1 _ (h, k)

pub has_room : (needed : ℕ) (room : List ℕ) → needed ≤ limit → needed ≤ length room → size_checks needed room ≡ pass
unfolding size_checks
has_room needed room h k = first_pass _ (h & k & tt)

module _ {d bytes words room : List ℕ} where
  -- one of them refuses
  pub left_stop : {found : Found} (r : Result Built Refusal) {c p : ℕ} → found ≡ stop c p → built_numbers r ≡ refuse c p → Left found d bytes words room room r
  left_stop r e n = record { answer = n ∙ sym (refused _ e); leaves = rw e }

  -- the first of them refuses, or passes
  pub left_first : {found : Found} (rest : Found) (r : Result Built Refusal) {c p : ℕ} → found ≡ stop c p → built_numbers r ≡ refuse c p → Left (found or_else rest) d bytes words room room r
  left_first rest r e n = left_stop r (stops rest e) n

  pub left_next : {found : Found} (rest : Found) {after : List ℕ} {r : Result Built Refusal} → found ≡ pass → Left rest d bytes words room after r
      → Left (found or_else rest) d bytes words room after r
  left_next rest e l = rw (goes rest e) l

  -- all pass
  pub left_pass : {after : List ℕ} {count v n : ℕ} → size d bytes words ≤ limit → size d bytes words ≤ length room
      → count ≡ pairs words → v ≡ start d bytes words → n ≡ size d bytes words → after ≡ sets room 0 (object d bytes words)
      → Left (size_checks (size d bytes words) room) d bytes words room after (Ok (record { count = count; start = v; length = n }))
  unfolding size
  left_pass h k c v e a =
      let ok = has_room (size d bytes words) room h k in
      let z : 0 + length (object d bytes words) ≡ length (object d bytes words) = omega arith in
      record { answer = rw (c, v, e) (sym (answered _ ok)); leaves = a ∙ rw ok (rw z at (sets-eq (object d bytes words) room 0 (omega arith))) }

  -- a child is refused
  pub left_child : (e : ChildRefusal) → ChildrenOf bytes words (Err e) → (rest : Found)
      → Left (range_checks bytes words or_else empty_checks words or_else rest) d bytes words room room (Err (of_child e))
  left_child (child.Outside k) e rest = left_first _ _ e refl
  left_child (child.Empty k) e rest = left_next _ e.0 (left_first _ _ e.1 refl)

-- PAIRS as a source of names, over a dictionary that was checked

module _ (d words : List ℕ) (names : ℕ) (sorts : Bool) where
  pub doubles_are : doubles.checks (name_of d words (source.Pairs names sorts)) (count_of words (source.Pairs names sorts)) ≡ doubles.checks (pair_name d words) (pairs words)
  unfolding name_of count_of pair_name
  doubles_are = refl

  module _ (over : Over d names sorts) (entries : Entries d words) where
    pub sound_pairs : Sound d words (source.Pairs names sorts)
    unfolding Sound
    sound_pairs = (over, entries)

    pub ready : {order : List ℕ} {plan : Option ℕ} {numbers : Option (Bor (List ℕ))} → Single d words (source.Pairs names sorts) order plan → SortedOf order plan numbers
        → Ready d words numbers names sorts
    ready n is =
        let alone = (good (pair_name d words) (pairs words)).0 (sym doubles_are ∙ n.passes) in
        record { over = over; entries = entries; distinct = alone; sorted = sorted_by _ _ _ _ _ _ n.planned is }

-- a dictionary whose header was read and checked
pub over_header : (d : List ℕ) (h : Header) → HeaderOf d h × (dictionary.checks d ≡ pass) → Over d h.start h.sorted
over_header d h c = record { passes = c.1; starts = c.0.start_is; sorted_is = c.0.sorted_is }

-- ALL OF IT

pub promised : {d bytes words room after : List ℕ} {r : Result Built Refusal} → Left (checks d bytes words room) d bytes words room after r → ObjectPromise d bytes words room r after
unfolding written room_after
promised l = record { answer = l.answer; leaves = l.leaves }

-- fewer fields than bytes before the region, and these are no more than all
pub size_above : (d bytes words : List ℕ) → Distinct (pair_name d words) 0 (pairs words) → (pairs words < start d bytes words) × (start d bytes words ≤ size d bytes words)
unfolding start offset_width
size_above d bytes words alone =
    let above = start_above (id_width words) (width_of (total (children d bytes words))) (pairs words) (width_some (total (children d bytes words))) in
    (above, omega (arith, size_is d bytes words alone))
