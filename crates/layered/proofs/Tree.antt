-- The writers and the tree's check (document 02, k): over an accepted dictionary, where every child is a good value with a level fewer left, the
-- object of good pairs is a good one, and the tree's check accepts it, whatever bytes follow it. Over a dictionary that j) wrote, pairs whose
-- ids are entries of it, no two the same, and whose children are good values, are enough. Assumes nothing.
use Rattle.rules.proofs.Prelude.{◌≡◌, refl, sym, ap, ◌∙◌, List, [], ◌∷◌, ◌++◌, ℕ, suc, ◌+◌, ◌≤◌, ◌<◌, arith, length, drop, take, get_or, take-append-drop, accept, code_of, pass}
use Rattle.part.specs.Part.{part}
use Rattle.part.proofs.Laws.{part_length}
use Rattle.names.specs.Search.{Rising}
use Rattle.names.proofs.Search as names
use Rattle.dictionary.specs.Limits.{limit}
use Rattle.dictionary.specs.Dictionary as dictionary
use Rattle.metadata.proofs.Means as dictionary-means
use Rattle.metadata.proofs.Accepts as dictionary-accepts
use Rattle.given.specs.Meaning.{GoodNames}
use Rattle.sets.proofs.Laws.{rising}
use Rattle.source.specs.Pairs as source
use Rattle.source.specs.Pairs.{pairs, child}
use Rattle.source.specs.Names.{Entries, GoodRanges}
use Rattle.fill.specs.Bytes as fill
use Rattle.fill.specs.Steps.{list_of}
use Rattle.write.proofs.TheList.{the_list}
use Rattle.write.proofs.ReadBack as dictionary-back
use Rattle.pairs.specs.Checks.{pair_name}
use Rattle.builder.specs.Bytes as builder
use Rattle.builder.specs.Bytes.{object, size}
use Rattle.write_object.specs.Meaning.{GoodPairs}
use Rattle.write_object.specs.Writing.{written, room_after}
use Rattle.encoding.specs.declared.Header.TheVariants as header
use Rattle.encoding.proofs.Laws.{is_object}
use Rattle.lengths.proofs.Means.{known}
use Rattle.layer.specs.Object.{basic_type, start, end, offset}
use Rattle.layer.specs.Meaning.{Layer}
use Rattle.layer.proofs.Laws.{end_is as layer-end}
use Rattle.layer.proofs.Alike as alike
use Rattle.object.proofs.Accepts as object-accepts
use Rattle.nodes.specs.Tree.{verdict}
use Rattle.nodes.specs.Meaning.{head_of, Good, GoodTree}
use Rattle.nodes.specs.Meaning.Good.{an_object}
use Rattle.nodes.proofs.Local.{good_measured, local}
use Rattle.tree.proofs.Accepts.{is_good, is_accepted, accepts, object_good}
use Rattle.tree.proofs.Local.{verdict_local}
use Rattle.tree.proofs.Appended.{verdict_appended}
use Rattle.layered.proofs.Readings.{field_pair, reads}
use Rattle.layered.proofs.ReadBack.{reads_back, settled, holds}

-- a value is its own length of bytes: what follows changes nothing
longer : (d : List ℕ) → dictionary.checks d ≡ pass → (n : ℕ) (s u : List ℕ) → length (s ++ u) ≤ limit → Good d n s → Good d n (s ++ u)
longer d over n s u short g =
    let fine = is_accepted d g in
    let own = good_measured d n s fine in
    is_good d n (s ++ u) (local d over s u own.0 own.1 short n ∙ fine)

module _ (d bytes words : List ℕ) (good : GoodPairs d bytes words) (fits : size d bytes words ≤ limit) where
  head_is : head_of (object d bytes words) ≡ header.Object (alike.widths (object d bytes words))
  unfolding basic_type
  head_is = sym (is_object (get_or (object d bytes words) 0 0) (reads d bytes words good fits).is_object)

  layer : Layer d (object d bytes words) (pairs words) (builder.start d bytes words) (size d bytes words)
  layer = (object-accepts.accepts d (object d bytes words) _ _ _).0 (reads_back d bytes words good fits).accepted

  over : dictionary.checks d ≡ pass
  over = dictionary-accepts.all_pass d _ _ good.ranged.single.known.over.accepted

  module _ (m : ℕ) (values : (k : ℕ) → k < pairs words → Good d m (child bytes words k)) where
    -- field k's part begins with its pair's child, which is good
    field_good : (k : ℕ) → k < pairs words
        → Good d m (part (object d bytes words) (start (object d bytes words) + offset (object d bytes words) k) (end (object d bytes words)))
    field_good k p =
        let o = object d bytes words in
        let begins = (reads d bytes words good fits).parts k p in
        let region = layer.offsets k (omega (arith, p, layer.counts)) in
        let inside = layer.named.headed.end_inside in
        let long = part_length o (start o + offset o k) (end o) (omega (arith, region, layer-end o)) inside in
        let short : length (part o (start o + offset o k) (end o)) ≤ limit = omega (arith, long, inside, layer.named.headed.placed.counted.typed.sized.not_long) in
        rw begins (longer d over m _ _ (rw begins at short) (values _ (field_pair d bytes words good k p).0))

    -- THE THEOREM, at any level
    pub object_is_good : Good d (suc m) (object d bytes words)
    object_is_good =
        let o = object d bytes words in
        an_object {n = m} {s = o} {w = alike.widths o} head_is (object_good d o head_is (object-accepts.all_pass d o _ _ _ layer)) λ k q.
        rw (alike.start_is o, alike.offset_is o k, alike.end_is o) (field_good k (omega (arith, q, alike.count_is o, layer.counts)))

  -- and of the whole tree
  module _ (values : (k : ℕ) → k < pairs words → Good d 31 (child bytes words k)) where
    pub tree_is_good : GoodTree d (object d bytes words)
    unfolding size
    tree_is_good = record { over = good.ranged.single.known.over.accepted; not_long = fits; good = object_is_good 31 values }

    pub tree_accepted : verdict d (object d bytes words) ≡ accept (0 ∷ size d bytes words ∷ [])
    tree_accepted =
        (accepts d (object d bytes words) (size d bytes words)).1 (tree_is_good, alike.own_length_law (object d bytes words) d _ _ _ layer)

    -- bytes added to either, within the limit, change nothing
    pub tree_appended : (t u : List ℕ) → length (d ++ t) ≤ limit → length (object d bytes words ++ u) ≤ limit
        → verdict (d ++ t) (object d bytes words ++ u) ≡ accept (0 ∷ size d bytes words ∷ [])
    tree_appended t u p q =
        verdict_appended d t (object d bytes words) u head_is p q (λ c r e. settled (omega (arith, ap code_of (sym e ∙ tree_accepted)))) ∙ tree_accepted

-- OF WHAT THE CALL LEFT IN THE ROOM: its front, and all of it where it is within the limit
module _ (d bytes words room : List ℕ) (f v n : ℕ) (w : written d bytes words room ≡ accept (f ∷ v ∷ n ∷ []))
    (values : (k : ℕ) → k < pairs words → Good d 31 (child bytes words k)) where
  pub front_is_good : GoodTree d (take n (room_after d bytes words room)) × (verdict d (take n (room_after d bytes words room)) ≡ accept (0 ∷ n ∷ []))
  front_is_good =
      let h = holds d bytes words room f v n w in
      let a = h.accepted in
      rw (h.is, a.ends) (tree_is_good d bytes words a.good a.within values, tree_accepted d bytes words a.good a.within values)

  pub room_accepted : length room ≤ limit → verdict d (room_after d bytes words room) ≡ accept (0 ∷ n ∷ [])
  room_accepted short =
      let after = room_after d bytes words room in
      let h = holds d bytes words room f v n w in
      let own = ((accepts d (take n after) n).0 front_is_good.1).1 in
      let whole = take-append-drop n after in
      (rw whole at (verdict_local d (take n after) (drop n after) n own (rw whole (omega (arith, short, h.same_length))) 0)) ∙ front_is_good.1

-- BOTH WRITERS: over the dictionary that j) makes of good names
module _ (run ends : List ℕ) (named : GoodNames run ends) (short : fill.size (list_of run ends) ≤ limit) (bytes words : List ℕ) where
  abbrev d : List ℕ
  d = fill.dictionary (list_of run ends)

  back : dictionary-back.ReadBack run ends d
  back = dictionary-back.reads_back run ends named short

  -- its names are in order, so no two are one
  names_rise : Rising (dictionary.name d) (dictionary.count d)
  names_rise i j p q =
      rw (back.name_by_number i (omega arith), back.name_by_number j q)
      (rising (list_of run ends) (the_list run ends).increasing i j p (omega (arith, q, back.counts)))

  module _ (entries : Entries d words) (once : (i j : ℕ) → i < j → j < pairs words → source.id words i ≡ source.id words j → ⊥)
      (ranges : GoodRanges bytes words) (values : (k : ℕ) → k < pairs words → Good d 31 (child bytes words k)) where
    -- a good value has a byte
    some : (k : ℕ) → k < pairs words → source.from words k < source.to words k
    unfolding child
    some k p =
        let own = good_measured d 31 (child bytes words k) (is_accepted d (values k p)) in
        let r = ranges k p in
        omega (arith, (known (child bytes words k) own.0 own.1).0, part_length bytes (source.from words k) (source.to words k) r.rises r.inside)

    -- pairs of one name have one id
    one : (i j : ℕ) → i < pairs words → j < pairs words → pair_name d words i ≡ pair_name d words j → source.id words i ≡ source.id words j
    unfolding pair_name
    one i j p q e = names.once (dictionary.name d) (dictionary.name d (source.id words j)) (dictionary.count d) names_rise _ _ (entries i p) (entries j q) e refl

    pub pairs_are_good : GoodPairs d bytes words
    pairs_are_good =
        let over = dictionary-means.good d (dictionary-accepts.all_pass d _ _ ((dictionary-accepts.accepts d _ _).0 back.accepted)) in
        record {
          ranged = record {
            single = record {
              known = record { over = record { accepted = over }; entries = entries };
              distinct = λ i j a b c e. once i j b (omega arith) (one i j (omega arith) (omega arith) e);
            };
            ranges = ranges;
          };
          some = some;
        }

    -- THE THEOREM
    pub both_writers : size d bytes words ≤ limit → GoodTree d (object d bytes words) × (verdict d (object d bytes words) ≡ accept (0 ∷ size d bytes words ∷ []))
    both_writers fits = (tree_is_good d bytes words pairs_are_good fits values, tree_accepted d bytes words pairs_are_good fits values)
