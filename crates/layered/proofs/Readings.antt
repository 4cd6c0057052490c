-- Reading what was written, number by number: type, widths, count, ids, offsets, region (the readings of `layer`), the fields' names, and what
-- each child's part begins with. Assumes nothing.
use Prim.Native.Nat.{◌%◌, ◌^◌}
use lib.Seq.{drop-cons, take-length, take_all}
use Rattle.rules.proofs.Prelude.{◌≡◌, refl, sym, ap, ◌∙◌, Bool, true, false, cond, List, [], ◌∷◌, ◌++◌, ℕ, zero, suc, ◌+◌, ◌-◌, ◌*◌, ◌/◌, ◌≤◌, ◌<◌, add-one}
use Rattle.rules.proofs.Prelude.{arith, eqb, ltb, ltb-false, length, take, drop, get_or, length-append, length-drop, drop-append-add, mul-le-mul_right}
use Rattle.part.specs.Part.{part}
use Rattle.width.specs.Width.{bytes_of}
use Rattle.width.proofs.Laws.{bytes_length, le_bytes}
use Rattle.put.specs.Numbers.{numbers}
use Rattle.put.proofs.Numbers.{numbers_length, le_numbers}
use Rattle.dictionary.specs.Limits.{limit}
use Rattle.dictionary.specs.Dictionary as dictionary
use Rattle.sets.specs.Sets.{collect, total}
use Rattle.sets.proofs.Laws.{total_part}
use Rattle.sets.proofs.Distinct.{all_new}
use Rattle.source.specs.Pairs as source
use Rattle.source.specs.Pairs.{pairs, child}
use Rattle.lay.specs.Bytes.{offsets, joined}
use Rattle.lay.proofs.Laws.{offsets_count, offsets_length, offsets_at, joined_length}
use Rattle.write.proofs.Readings.{joined_from}
use Rattle.pairs.specs.Checks.{pair_name}
use Rattle.builder.specs.Bytes as builder
use Rattle.builder.specs.Bytes.{fields, ids_of, children, lead, start_for, layout, object, size}
use Rattle.builder.proofs.Fields.{ids_count, ids_at, children_count, children_at, field_at, fields_count}
use Rattle.builder.proofs.Laws.{layout_length}
use Rattle.write_object.specs.Meaning.{GoodPairs}
use Rattle.write_object.proofs.Laws.{size_is}
use Rattle.layer.specs.Object.{basic_type, offset_width, id_width, count_width, count, ids_start, id, offsets_start, offset, start, end, field_name}
use Rattle.layered.proofs.Smallest.{smallest_ids, smallest_offsets}

-- THE NUMBERS fit their widths, and there are as many ids as children
record Held (wi wo : ℕ) (ids : List ℕ) (xs : List (List ℕ)) : Type 0 where
  ids_some : 1 ≤ wi
  ids_few : wi ≤ 4
  offsets_some : 1 ≤ wo
  offsets_few : wo ≤ 4
  as_many : length xs ≡ length ids
  count_fits : length ids < 4294967296
  ids_fit : (k : ℕ) → k < length ids → get_or ids k 0 < 256 ^ wi
  total_fits : total xs < 256 ^ wo

-- a count of 32 bits fits one byte or four
count_held : (n : ℕ) → n < 4294967296 → n < 256 ^ builder.count_width n
unfolding builder.count_width
count_held n h = go (ltb 0xFF n) refl
  where
    go : (long : Bool) → ltb 0xFF n ≡ long → n < 256 ^ cond long 4 1
    go true e = h
    go false e = omega (arith, ltb-false 0xFF n e)

-- THE PARTS of the bytes
module _ (wi wo : ℕ) (ids : List ℕ) (xs : List (List ℕ)) where
  -- from the ids on, from the offsets on, from the region on
  from_ids : (k : ℕ) → drop (1 + builder.count_width (length ids) + k) (layout wi wo ids xs) ≡ drop k (numbers wi ids ++ (numbers wo (offsets 0 xs) ++ joined xs))
  unfolding layout
  from_ids k =
      let w = builder.count_width (length ids) in
      let bs = bytes_of w (length ids) in
      let place : 1 + w + k ≡ suc (length bs + k) = omega (arith, bytes_length w (length ids)) in
      rw place (drop-append-add bs (numbers wi ids ++ (numbers wo (offsets 0 xs) ++ joined xs)) k)

  from_offsets : (k : ℕ) → drop (1 + builder.count_width (length ids) + wi * length ids + k) (layout wi wo ids xs) ≡ drop k (numbers wo (offsets 0 xs) ++ joined xs)
  from_offsets k =
      let before = 1 + builder.count_width (length ids) in
      let is = numbers wi ids in
      let place : before + wi * length ids + k ≡ before + (length is + k) = omega (arith, numbers_length wi ids) in
      rw place (from_ids (length is + k) ∙ drop-append-add is (numbers wo (offsets 0 xs) ++ joined xs) k)

  module _ (as_many : length xs ≡ length ids) where
    offsets_long : length (numbers wo (offsets 0 xs)) ≡ wo * (length ids + 1)
    offsets_long = offsets_length wo 0 xs ∙ rw as_many

    from_region : (k : ℕ) → drop (start_for wi wo (length ids) + k) (layout wi wo ids xs) ≡ drop k (joined xs)
    unfolding start_for
    from_region k =
        let before = 1 + builder.count_width (length ids) + wi * length ids in
        let os = numbers wo (offsets 0 xs) in
        let place : before + wo * (length ids + 1) + k ≡ before + (length os + k) = omega (arith, offsets_long) in
        rw place (from_offsets (length os + k) ∙ drop-append-add os (joined xs) k)

module _ {wi wo : ℕ} {ids : List ℕ} {xs : List (List ℕ)} (h : Held wi wo ids xs) where
  -- THE FIRST BYTE says what it was made of, whether the count is long or not
  abbrev lead_by : Bool → ℕ
  lead_by long = 2 + 4 * (wo - 1) + 16 * (wi - 1) + cond long 64 0

  type_by : (long : Bool) → lead_by long % 4 ≡ 2
  type_by true = omega arith
  type_by false = omega arith

  offset_by : (long : Bool) → lead_by long / 4 % 4 + 1 ≡ wo
  offset_by true = omega arith
  offset_by false = omega arith

  id_by : (long : Bool) → lead_by long / 16 % 4 + 1 ≡ wi
  id_by true = omega arith
  id_by false = omega arith

  count_by : (long : Bool) → ◌≡◌ {A = ℕ} (cond (eqb (lead_by long / 64 % 2) 1) 4 1) (cond long 4 1)
  count_by true = let e : lead_by true / 64 ≡ 1 = omega arith in rw e
  count_by false = let e : lead_by false / 64 ≡ 0 = omega arith in rw e

  -- THE READINGS of such bytes
  laid_type : basic_type (layout wi wo ids xs) ≡ 2
  unfolding layout lead basic_type
  laid_type = type_by (ltb 0xFF (length ids))

  laid_offset_width : offset_width (layout wi wo ids xs) ≡ wo
  unfolding layout lead offset_width
  laid_offset_width = offset_by (ltb 0xFF (length ids))

  laid_id_width : id_width (layout wi wo ids xs) ≡ wi
  unfolding layout lead id_width
  laid_id_width = id_by (ltb 0xFF (length ids))

  laid_count_width : count_width (layout wi wo ids xs) ≡ builder.count_width (length ids)
  unfolding layout lead count_width builder.count_width
  laid_count_width = count_by (ltb 0xFF (length ids))

  laid_count : count (layout wi wo ids xs) ≡ length ids
  unfolding count layout
  laid_count = rw laid_count_width (le_bytes (builder.count_width (length ids)) (length ids) _ (count_held (length ids) h.count_fits))

  laid_id : (k : ℕ) → k < length ids → id (layout wi wo ids xs) k ≡ get_or ids k 0
  unfolding id ids_start
  laid_id k p = rw (laid_id_width, laid_count_width, from_ids wi wo ids xs (wi * k)) (le_numbers wi ids _ k p (h.ids_fit k p))

  laid_offsets : offsets_start (layout wi wo ids xs) ≡ 1 + builder.count_width (length ids) + wi * length ids
  unfolding offsets_start ids_start
  laid_offsets = rw (laid_id_width, laid_count_width, laid_count)

  laid_offset : (k : ℕ) → k ≤ length xs → offset (layout wi wo ids xs) k ≡ total (take k xs)
  unfolding offset
  laid_offset k p =
      let is : get_or (offsets 0 xs) k 0 ≡ total (take k xs) = offsets_at 0 k xs p ∙ omega arith in
      rw (laid_offset_width, laid_offsets, from_offsets wi wo ids xs (wo * k))
      (le_numbers wo (offsets 0 xs) (joined xs) k (omega (arith, offsets_count 0 xs)) (omega (arith, is, total_part xs k, h.total_fits)) ∙ is)

  laid_start : start (layout wi wo ids xs) ≡ start_for wi wo (length ids)
  unfolding start start_for
  laid_start = rw (laid_offsets, laid_offset_width, laid_count)

  laid_end : end (layout wi wo ids xs) ≡ length (layout wi wo ids xs)
  unfolding end
  laid_end =
      let last : offset (layout wi wo ids xs) (length ids) ≡ total xs = rw (← h.as_many) (laid_offset (length xs) (omega arith) ∙ rw (take-length xs)) in
      rw (laid_count, laid_start, last) (sym (layout_length wi wo ids xs h.as_many))

  -- child k's part begins with its bytes, and then come those of the children after it
  laid_part : (k : ℕ) → k < length xs
      → part (layout wi wo ids xs) (start (layout wi wo ids xs) + offset (layout wi wo ids xs) k) (end (layout wi wo ids xs)) ≡ get_or xs k [] ++ joined (drop (k + 1) xs)
  unfolding joined
  laid_part k p =
      let from = start_for wi wo (length ids) + total (take k xs) in
      let whole = length (layout wi wo ids xs) in
      let left : drop from (layout wi wo ids xs) ≡ joined (drop k xs) = from_region wi wo ids xs h.as_many (total (take k xs)) ∙ joined_from xs k in
      let long : length (joined (drop k xs)) ≤ whole - from = rw (← left, length-drop from (layout wi wo ids xs)) (omega arith) in
      rw (laid_start, laid_offset k (omega arith), laid_end, left, take_all (whole - from) (joined (drop k xs)) long, drop-cons xs k [] p, add-one k)

-- WHAT IS READ of bytes o, by the readings of `layer`: what the object of the pairs was made of
pub record Reads (d bytes words o : List ℕ) : Type 0 where
  pub is_object : basic_type o ≡ 2
  pub offset_width_law : offset_width o ≡ builder.offset_width (children d bytes words)
  pub id_width_law : id_width o ≡ builder.id_width words
  pub count_width_law : count_width o ≡ builder.count_width (pairs words)
  pub counts : count o ≡ pairs words
  pub ids : (k : ℕ) → k < pairs words → id o k ≡ get_or (ids_of words (fields d words)) k 0
  pub offsets : (k : ℕ) → k ≤ pairs words → offset o k ≡ total (take k (children d bytes words))
  pub starts : start o ≡ builder.start d bytes words
  pub ends : end o ≡ size d bytes words
  pub names : (k : ℕ) → k < pairs words → field_name d o k ≡ get_or (collect (pair_name d words) 0 (pairs words)) k []
  pub parts : (k : ℕ) → k < pairs words
      → part o (start o + offset o k) (end o) ≡ child bytes words (get_or (fields d words) k 0) ++ joined (drop (k + 1) (children d bytes words))

module _ (d bytes words : List ℕ) (good : GoodPairs d bytes words) where
  fields_many : length (fields d words) ≡ pairs words
  fields_many = fields_count d words good.ranged.single.distinct

  ids_many : length (ids_of words (fields d words)) ≡ pairs words
  ids_many = ids_count words (fields d words) ∙ fields_many

  pub children_many : length (children d bytes words) ≡ pairs words
  unfolding children
  children_many = children_count bytes words (fields d words) ∙ fields_many

  pub names_many : length (collect (pair_name d words) 0 (pairs words)) ≡ pairs words
  names_many = all_new (pair_name d words) 0 (pairs words) good.ranged.single.distinct

  -- field k is a pair, of name k of the list
  pub field_pair : (k : ℕ) → k < pairs words
      → (get_or (fields d words) k 0 < pairs words) × (pair_name d words (get_or (fields d words) k 0) ≡ get_or (collect (pair_name d words) 0 (pairs words)) k [])
  field_pair k p = field_at d words k (omega (arith, p, names_many))

  -- with that pair's id and child
  pub field_id : (k : ℕ) → k < pairs words → get_or (ids_of words (fields d words)) k 0 ≡ source.id words (get_or (fields d words) k 0)
  field_id k p = ids_at words (fields d words) k (omega (arith, p, fields_many))

  pub field_child : (k : ℕ) → k < pairs words → get_or (children d bytes words) k [] ≡ child bytes words (get_or (fields d words) k 0)
  unfolding children
  field_child k p = children_at bytes words (fields d words) k (omega (arith, p, fields_many))

  module _ (fits : size d bytes words ≤ limit) where
    -- so there are few fields
    few : pairs words < 4294967296
    unfolding builder.start start_for limit
    few =
        let w = builder.offset_width (children d bytes words) in
        omega (arith, fits, size_is d bytes words good.ranged.single.distinct, mul-le-mul_right {m = 1} {n = w} (pairs words + 1) (smallest_offsets d bytes words fits).some)

    held : Held (builder.id_width words) (builder.offset_width (children d bytes words)) (ids_of words (fields d words)) (children d bytes words)
    held =
        let wi = smallest_ids d words good.ranged.single.known in
        let wo = smallest_offsets d bytes words fits in
        record {
          ids_some = wi.some;
          ids_few = wi.few;
          offsets_some = wo.some;
          offsets_few = wo.few;
          as_many = children_many ∙ sym ids_many;
          count_fits = omega (arith, few, ids_many);
          ids_fit = λ k p. let q : k < pairs words = omega (arith, p, ids_many) in rw (field_id k q) (wi.fits _ (field_pair k q).0);
          total_fits = wo.fits;
        }

    -- THE THEOREM: of the object of good pairs, where it is within the limit
    pub reads : Reads d bytes words (object d bytes words)
    unfolding object size builder.start field_name pair_name
    reads =
        let ids_are : (k : ℕ) → k < pairs words → id (object d bytes words) k ≡ get_or (ids_of words (fields d words)) k 0 = λ k p.
        laid_id held k (omega (arith, p, ids_many)) in
        record {
          is_object = laid_type held;
          offset_width_law = laid_offset_width held;
          id_width_law = laid_id_width held;
          count_width_law = laid_count_width held ∙ rw ids_many;
          counts = laid_count held ∙ ids_many;
          ids = ids_are;
          offsets = λ k p. laid_offset held k (omega (arith, p, children_many));
          starts = laid_start held ∙ rw ids_many;
          ends = laid_end held;
          names = λ k p. ap (dictionary.name d) (ids_are k p ∙ field_id k p) ∙ (field_pair k p).1;
          parts = λ k p. laid_part held k (omega (arith, p, children_many)) ∙ rw (field_child k p);
        }
