-- Bytes added after the dictionary, after the object or after both, each within the limit, change neither the lookup nor the child's bytes
-- and place, unless the answer was empty or short (11, 13, 21 or 23). Assumes nothing.
use Rattle.rules.proofs.Prelude.{◌≡◌, refl, List, ◌++◌, ℕ, ◌≤◌, ◌<◌, arith, length, code_of, pass, stays_answer}
use Rattle.part.specs.Part.{part}
use Rattle.part.proofs.Laws.{part_append}
use Rattle.names.specs.Search.{Sought, seek}
use Rattle.names.specs.Search.Sought.{nowhere, here}
use Rattle.names.proofs.Search.{seek_at, seek_same}
use Rattle.dictionary.specs.Limits.{limit}
use Rattle.layer.specs.Object.{count, start, field_name, checks}
use Rattle.layer.proofs.Laws.{passes, entry_of}
use Rattle.object.proofs.Means.{good}
use Rattle.object.proofs.Appended.{lifted, Settled, unlifted, counted, count_same, start_same, id_same, offset_same, end_same, field_same, checks_kept}
use Rattle.lookup.specs.ByName.{found, lookup, lookup_within, start_of, end_of}
use Rattle.lookup.proofs.Finds.{child_inside}

module _ (d t o u q : List ℕ) where
  found_same : checks d o ≡ pass → found (o ++ u) (seek (field_name (d ++ t) (o ++ u)) q (count (o ++ u))) ≡ found o (seek (field_name d o) q (count o))
  found_same e =
      let g = good d o e in
      let placed : start o ≤ length o = omega arith in
      let names : (k : ℕ) → k < count o → field_name (d ++ t) (o ++ u) k ≡ field_name d o k = λ k p.
      field_same d t o u (passes d o e).over placed k p (entry_of d o e k p) in
      rw (count_same o u (counted o u placed), seek_same (field_name (d ++ t) (o ++ u)) (field_name d o) q (count o) names)
      (go placed (seek (field_name d o) q (count o)) (seek_at (field_name d o) q (count o)))
    where
      go : start o ≤ length o → (s : Sought) → ((k : ℕ) → s ≡ here k → (k < count o) × (field_name d o k ≡ q)) → found (o ++ u) s ≡ found o s
      go placed nowhere is = refl
      go placed (here k) is = let p = is k refl in rw (id_same o u placed k p.0, start_same o u (counted o u placed), offset_same o u placed k (omega arith), end_same o u placed)

  module _ (dictionary-limit : length (d ++ t) ≤ limit) (object-limit : length (o ++ u) ≤ limit) (settled : Settled (code_of (lookup d o q))) where
    pub lookup_appended : lookup (d ++ t) (o ++ u) q ≡ lookup d o q
    unfolding lookup_within
    lookup_appended =
        stays_answer lifted (checks d o) (checks (d ++ t) (o ++ u)) _ _ (checks_kept d t o u dictionary-limit object-limit) found_same (unlifted _ settled)

    -- THE CHILD: where it starts and ends, counted from the object's first byte, and its bytes
    pub child_appended : (start_of (lookup (d ++ t) (o ++ u) q) ≡ start_of (lookup d o q))
        × (end_of (lookup (d ++ t) (o ++ u) q) ≡ end_of (lookup d o q))
        × (part (o ++ u) (start_of (lookup (d ++ t) (o ++ u) q)) (end_of (lookup (d ++ t) (o ++ u) q)) ≡ part o (start_of (lookup d o q)) (end_of (lookup d o q)))
    child_appended =
        let i = child_inside d o q in
        rw lookup_appended (refl, refl, part_append o u _ _ i.0 i.1)
