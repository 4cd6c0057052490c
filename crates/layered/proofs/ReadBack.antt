-- Reading back (document 02, k): the object of good pairs is accepted over its dictionary, with its count, start and length; its fields are in
-- the order of their names; each pair's name is found, with its id, and the part begins with its child; and no other name is found. The same
-- holds where bytes are added to either, and of what the call left in the room. Assumes nothing.
use lib.Seq.{drop_at}
use mathlib.Core.List.{append-nil}
use Rattle.rules.proofs.Prelude.{◌≡◌, refl, sym, ap, ◌∙◌, List, [], ◌∷◌, ◌++◌, ℕ, suc, ◌+◌, ◌-◌, ◌≤◌, ◌<◌, arith, length, take, drop, get_or, length-append, length-drop}
use Rattle.rules.proofs.Prelude.{take_at, accept, code_of}
use Rattle.part.specs.Part.{part}
use Rattle.part.proofs.Laws.{part_length, part_append}
use Rattle.names.specs.Search.{Rising}
use Rattle.width.specs.Limits.{u32_max}
use Rattle.dictionary.specs.Limits.{limit}
use Rattle.dictionary.specs.Dictionary as dictionary
use Rattle.metadata.proofs.Accepts as dictionary-accepts
use Rattle.sets.specs.Sets.{collect}
use Rattle.sets.proofs.Laws.{collect_increasing, collect_in, in_at, rising, total_next, total_part}
use Rattle.source.specs.Pairs as source
use Rattle.source.specs.Pairs.{pairs, child}
use Rattle.lay.specs.Bytes.{joined}
use Rattle.lay.proofs.Laws.{sum_all}
use Rattle.pairs.specs.Checks.{pair_name}
use Rattle.builder.specs.Bytes as builder
use Rattle.builder.specs.Bytes.{fields, children, object, size}
use Rattle.builder.proofs.Fields.{field_is}
use Rattle.write_object.specs.Meaning.{GoodPairs, Accepted}
use Rattle.write_object.specs.Writing.{written, room_after}
use Rattle.write_object.proofs.Refuses.{written_room}
use Rattle.write_object.proofs.Refuses.{accepts as accepted-when}
use Rattle.layer.specs.Object.{count, id, offset, start, end, field_name, verdict}
use Rattle.layer.specs.Meaning.{Sized, Counted, Placed, GoodName, Layer}
use Rattle.layer.proofs.Laws.{ids_before, offsets_before, count_below, start_before}
use Rattle.object.proofs.Accepts.{accepts}
use Rattle.object.proofs.Appended.{Settled, field_same, verdict_appended}
use Rattle.lookup.specs.ByName.{absent, lookup}
use Rattle.lookup.proofs.Finds.{found, found_at, found_inside, absent_is}
use Rattle.lookup.proofs.Appended.{lookup_appended}
use Rattle.layered.proofs.Readings.{Reads, children_many, names_many, field_pair, field_id, field_child, reads}

-- WHAT READING BACK SAYS of bytes o over a dictionary e, for pairs over d

-- pair k's name is found: at its place in the list of names, with the pair's id, and the part begins with the pair's child
pub record FoundPair (d bytes words e o : List ℕ) (k : ℕ) : Type 0 where
  pub place : ℕ
  pub from : ℕ
  pub rest : List ℕ
  pub is_place : place < pairs words
  pub in_list : get_or (collect (pair_name d words) 0 (pairs words)) place [] ≡ pair_name d words k
  pub is_found : lookup e o (pair_name d words k) ≡ accept (place ∷ source.id words k ∷ from ∷ size d bytes words ∷ [])
  pub begins : part o from (size d bytes words) ≡ child bytes words k ++ rest

pub record ReadBack (d bytes words e o : List ℕ) : Type 0 where
  pub accepted : verdict e o ≡ accept (pairs words ∷ builder.start d bytes words ∷ size d bytes words ∷ [])
  pub named : (j : ℕ) → j < pairs words → field_name e o j ≡ get_or (collect (pair_name d words) 0 (pairs words)) j []
  pub in_order : Rising (field_name e o) (pairs words)
  pub each_found : (k : ℕ) → k < pairs words → FoundPair d bytes words e o k
  pub none_else : (q : List ℕ) → ((k : ℕ) → k < pairs words → pair_name d words k ≡ q → ⊥) → lookup e o q ≡ absent

module _ (d bytes words : List ℕ) (good : GoodPairs d bytes words) (fits : size d bytes words ≤ limit) where
  read : Reads d bytes words (object d bytes words)
  read = reads d bytes words good fits

  -- THE RULES of document 01 hold

  -- a field's child has a byte, so its offset is below the region's length
  offset_below : (k : ℕ) → k < pairs words → offset (object d bytes words) k < offset (object d bytes words) (pairs words)
  unfolding child
  offset_below k p =
      let xs = children d bytes words in
      let j = get_or (fields d words) k 0 in
      let q = (field_pair d bytes words good k p).0 in
      let range = good.ranged.ranges j q in
      let some : 0 < length (get_or xs k []) =
      rw (field_child d bytes words good k p) (omega (arith, good.some j q, part_length bytes (source.from words j) (source.to words j) range.rises range.inside)) in
      let many = children_many d bytes words good in
      omega (arith, some, read.offsets k (omega arith), read.offsets (pairs words) (omega arith), sum_all xs (sym many), total_next xs k (omega (arith, p, many)), total_part xs (suc k))

  -- the fields' names are in order
  names_rise : Rising (field_name d (object d bytes words)) (pairs words)
  names_rise i j p q =
      let names = collect (pair_name d words) 0 (pairs words) in
      rw (read.names i (omega arith), read.names j q)
      (rising names (collect_increasing (pair_name d words) 0 (pairs words)) i j p (omega (arith, q, names_many d bytes words good)))

  good_name : (k : ℕ) → k < pairs words → GoodName d (object d bytes words) k
  good_name k p =
      record {
        entry = rw (read.ids k p, field_id d bytes words good k p) (good.ranged.single.known.entries _ (field_pair d bytes words good k p).0);
        above = λ z. names_rise (k - 1) k (omega arith) p;
      }

  is_layer : Layer d (object d bytes words) (count (object d bytes words)) (start (object d bytes words)) (end (object d bytes words))
  unfolding size limit u32_max
  is_layer =
      let o = object d bytes words in
      let counts = read.counts in
      let ends = read.ends in
      let a = ids_before o in
      let b = offsets_before o in
      let c = count_below o in
      let v = start_before o in
      let sized : Sized d o = record { over = good.ranged.single.known.over.accepted; not_long = fits; not_empty = omega arith } in
      let counted : Counted d o = record { typed = record { sized = sized; is_object = read.is_object }; count_inside = omega arith } in
      let placed : Placed d o = record { counted = counted; offsets_fit = omega arith; start_fits = omega arith; start_inside = omega arith } in
      record {
        named = record { headed = record { placed = placed; end_fits = omega arith; end_inside = omega arith }; names = λ k q. good_name k (omega arith) };
        offsets = λ k q. rw counts (offset_below k (omega arith));
        counts = refl;
        starts = refl;
        ends = refl;
      }

  -- THE LOOKUPS

  -- pair k is the field of its name
  found_pair : (k : ℕ) → k < pairs words → FoundPair d bytes words d (object d bytes words) k
  found_pair k p =
      let o = object d bytes words in
      let name = pair_name d words in
      let s = in_at (collect name 0 (pairs words)) (name k) (collect_in name 0 (pairs words) k (omega arith) (omega arith)) in
      let j = s.place in
      let q : j < pairs words = omega (arith, s.inside, names_many d bytes words good) in
      let is = field_is d words good.ranged.single.distinct j k s.inside p (sym s.is) in
      let id_is : id o j ≡ source.id words k = read.ids j q ∙ field_id d bytes words good j q ∙ rw (← is) in
      record {
        place = j;
        from = start o + offset o j;
        rest = joined (drop (j + 1) (children d bytes words));
        is_place = q;
        in_list = s.is;
        is_found = rw (id_is, read.ends) at ((found_at d o (name k) j).1 (is_layer, omega (arith, q, read.counts), read.names j q ∙ s.is));
        begins = rw (← read.ends) (read.parts j q ∙ rw (← is));
      }

  none_found : (q : List ℕ) → ((k : ℕ) → k < pairs words → pair_name d words k ≡ q → ⊥) → lookup d (object d bytes words) q ≡ absent
  none_found q none =
      (absent_is d (object d bytes words) q).1 (record {
        accepted = is_layer;
        no_field = λ j p e.
            let b : j < pairs words = omega (arith, p, read.counts) in
            let pair = field_pair d bytes words good j b in none (get_or (fields d words) j 0) pair.0 (pair.1 ∙ sym (read.names j b) ∙ e);
      })

  -- THE THEOREM
  pub reads_back : ReadBack d bytes words d (object d bytes words)
  reads_back =
      record {
        accepted = (accepts d (object d bytes words) _ _ _).1 is_layer ∙ rw (read.counts, read.starts, read.ends);
        named = read.names;
        in_order = names_rise;
        each_found = found_pair;
        none_else = none_found;
      }

-- BYTES ADDED to either, within the limit, change nothing of it

-- neither an acceptance nor an absence is lifted
pub settled : {c : ℕ} → c < 2 → Settled c
settled p =
    record { not_empty_dictionary = λ e. omega arith; not_short_dictionary = λ e. omega arith; not_empty = λ e. omega arith; not_short = λ e. omega arith }

module _ (d bytes words e t o u : List ℕ) (dictionary-limit : length (e ++ t) ≤ limit) (object-limit : length (o ++ u) ≤ limit) (back : ReadBack d bytes words e o) where
  layer : Layer e o (pairs words) (builder.start d bytes words) (size d bytes words)
  layer = (accepts e o _ _ _).0 back.accepted

  name_same : (j : ℕ) → j < pairs words → field_name (e ++ t) (o ++ u) j ≡ field_name e o j
  name_same j p =
      let placed = layer.named.headed.placed in
      let q : j < count o = omega (arith, p, layer.counts) in
      field_same e t o u (dictionary-accepts.all_pass e _ _ placed.counted.typed.sized.over) placed.start_inside j q (layer.named.names j q).entry

  same : (q : List ℕ) {c : ℕ} → code_of (lookup e o q) ≡ c → c < 2 → lookup (e ++ t) (o ++ u) q ≡ lookup e o q
  same q is small = lookup_appended e t o u q dictionary-limit object-limit (settled (rw is small))

  pub reads_appended : ReadBack d bytes words (e ++ t) (o ++ u)
  reads_appended =
      record {
        accepted = verdict_appended e t o u dictionary-limit object-limit (rw back.accepted (settled (omega arith))) ∙ back.accepted;
        named = λ j p. name_same j p ∙ back.named j p;
        in_order = λ i j p q. rw (name_same i (omega arith), name_same j q) (back.in_order i j p q);
        each_found = λ k p.
            let f = back.each_found k p in
            let name = pair_name d words k in
            let inside = found_inside e o name _ _ _ _ ((found e o name _ _ _ _).0 f.is_found) in
            record {
              place = f.place;
              from = f.from;
              rest = f.rest;
              is_place = f.is_place;
              in_list = f.in_list;
              is_found = same name (ap code_of f.is_found) (omega arith) ∙ f.is_found;
              begins = part_append o u f.from (size d bytes words) inside.0 inside.1 ∙ f.begins;
            };
        none_else = λ q none. let a = back.none_else q none in same q (ap code_of a) (omega arith) ∙ a;
      }

-- OF WHAT THE CALL LEFT IN THE ROOM: the object at its front, whose bytes read back, and after them what was there

pub record Holds (d bytes words room after : List ℕ) (f v n : ℕ) : Type 0 where
  pub accepted : Accepted d bytes words room f v n
  pub is : take n after ≡ object d bytes words
  pub rest : drop n after ≡ drop n room
  pub same_length : length after ≡ length room
  pub front : ReadBack d bytes words d (take n after)
  pub more : (t u : List ℕ) → length (d ++ t) ≤ limit → length (take n after ++ u) ≤ limit → ReadBack d bytes words (d ++ t) (take n after ++ u)
  pub whole : length room ≤ limit → ReadBack d bytes words d after

module _ (d bytes words room : List ℕ) where
  -- THE THEOREM
  pub holds : (f v n : ℕ) → written d bytes words room ≡ accept (f ∷ v ∷ n ∷ []) → Holds d bytes words room (room_after d bytes words room) f v n
  unfolding size
  holds f v n w =
      let a = (accepted-when d bytes words room f v n).0 w in
      let o = object d bytes words in
      let left = drop (length o) room in
      let is : room_after d bytes words room ≡ o ++ left = written_room d bytes words room a in
      let at : length o ≡ n = sym a.ends in
      let front : take n (room_after d bytes words room) ≡ o = rw is (take_at o left n at) in
      let long : length (o ++ left) ≡ length room = simp (length-append, length-drop) (omega (arith, a.fits)) in
      let back = reads_back d bytes words a.good a.within in
      let none : d ++ [] ≡ d = append-nil d in
      let short : length d ≤ limit = a.good.ranged.single.known.over.accepted.texted.headed.placed.counted.versioned.sized.not_long in
      record {
        accepted = a;
        is = front;
        rest = rw (is, ← at) (drop_at o left (length o) refl);
        same_length = rw is long;
        front = rw front back;
        more = λ t u p q. rw front (reads_appended d bytes words d t o u p (rw front at q) back);
        whole = λ p. rw is (rw none at (reads_appended d bytes words d [] o left (rw none short) (rw long p) back));
      }
