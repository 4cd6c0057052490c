-- A value's check looks at its own bytes alone: where it has an own length, bytes added after it change nothing, refusals included. And a good
-- value has an own length. So a mark of a start answers for every end that the value's own length fits. Assumes nothing.
use Rattle.rules.proofs.Prelude.{◌≡◌, refl, sym, ap, ◌∙◌, List, ◌++◌, ℕ, zero, suc, ◌+◌, ◌-◌, ◌≤◌, ◌<◌, arith, length, Passed, pass}
use Rattle.rules.proofs.Prelude.{length-append, List·getD-append, drop, take, take-append-drop}
use Rattle.std.specs.Prelude.{Ok}
use native.Mathlib.Decide.{dec_le}
use lib.Seq.{take-take}
use Rattle.part.specs.Part.{part}
use Rattle.part.proofs.Laws.{part_append, part_length}
use Rattle.dictionary.specs.Limits.{limit}
use Rattle.dictionary.specs.Dictionary as dictionary
use Rattle.layout.specs.declared.Widths.{Widths}
use Rattle.layout.specs.Layout as layout
use Rattle.layout.specs.Layout.{count, child_start, end}
use Rattle.layout.proofs.Appended as layout-appended
use Rattle.encoding.specs.declared.Header.TheVariants as header
use Rattle.encoding.specs.Encoding.{header_of}
use Rattle.lengths.specs.Lengths.{own_length}
use Rattle.lengths.proofs.Means.{known}
use Rattle.layer.specs.Object as object
use Rattle.object.proofs.Local.{checks_local}
use Rattle.list.specs.List as list
use Rattle.list.proofs.Appended as list-appended
use Rattle.leaf.specs.Leaf.{leaf}
use Rattle.leaf.proofs.Local as leaf-local
use Rattle.nodes.specs.Tree.{here, field_end, element_end, tree}
use Rattle.nodes.specs.Tree.Seen.{fine}
use Rattle.nodes.specs.Meaning.{head_of, child_of}
use Rattle.nodes.proofs.Laws.{wrong_fine, here_fine, layered_alike, fine_layer, tree_leaf, object_deep, list_deep, tree_object, tree_list, by_head}
use Rattle.nodes.proofs.Inside.{header_passes, laid, object_measured, field_rises, object_inside, list_header, list_measured}
use Rattle.nodes.proofs.Inside.{element_rises, element_inside, list_inside}

-- A GOOD VALUE HAS AN OWN LENGTH
pub good_measured : (d : List ℕ) (n : ℕ) (s : List ℕ) → tree d n s ≡ fine → (m : ℕ) × (own_length s ≡ Ok m)
good_measured d zero s e =
    by_head s (λ l. (_, leaf-local.measured s (here_fine (leaf s) (sym (tree_leaf d s 0 l) ∙ e))))
    (λ w h. wrong_fine (sym (object_deep d s h) ∙ e)) (λ w h. wrong_fine (sym (list_deep d s h) ∙ e))
good_measured d (suc n) s e =
    by_head s (λ l. (_, leaf-local.measured s (here_fine (leaf s) (sym (tree_leaf d s (suc n) l) ∙ e))))
    (λ w h. (end w s, object_measured s h d (fine_layer (tree d n) w s (field_end w s) _ (sym (tree_object d s n h) ∙ e)).0))
    (λ w h. (end w s, list_measured s h (fine_layer (tree d n) w s (element_end w s) _ (sym (tree_list d s n h) ∙ e)).0))

-- BYTES ADDED after a value with an own length
module _ (d : List ℕ) (over : dictionary.checks d ≡ pass) (s u : List ℕ) (m : ℕ) (own : own_length s ≡ Ok m) (limited : length (s ++ u) ≤ limit) where
  pub head_same : head_of (s ++ u) ≡ head_of s
  head_same = ap header_of (List·getD-append s u 0 0 (known s m own).0)

  -- children that lie within a layout that passes are the same bytes
  module _ (w : Widths) (p : Passed (layout.rules 0 0 0 w s)) where
    counts : count w (s ++ u) ≡ count w s
    counts = layout-appended.count_same w s u (omega arith)

    starts : (k : ℕ) → k ≤ count w s → child_start w (s ++ u) k ≡ child_start w s k
    starts k q = rw (layout-appended.start_same w s u (omega arith), layout-appended.offset_same w s u (omega arith) k q)

    child_same : (high high' : ℕ → ℕ) (k : ℕ) → k < count w s → high' k ≡ high k → child_start w s k ≤ high k → high k ≤ length s
        → child_of w (s ++ u) high' k ≡ child_of w s high k
    child_same high high' k q e r i = rw (e, starts k (omega arith)) (part_append s u (child_start w s k) (high k) r i)

  object_local : (n : ℕ) (w : Widths) → head_of s ≡ header.Object w → tree d (suc n) (s ++ u) ≡ tree d (suc n) s
  object_local n w h =
      let passes = header_passes s h (omega (arith, length-append s u)) own in
      let l = laid s h passes in
      tree_object d (s ++ u) n (head_same ∙ h)
      ∙ layered_alike (tree d n) (tree d n) w w s (s ++ u) (field_end w s) (field_end w (s ++ u)) (object.checks d s) (object.checks d (s ++ u))
      (checks_local d s u over passes limited)
      (λ o. (
        counts w l,
        λ k q. (
          starts w l k (omega arith),
          ap (tree d n) (child_same w l (field_end w s) (field_end w (s ++ u)) k q (layout-appended.end_same w s u (omega arith)) (field_rises s h d o k q) (object_inside s h d o)),
        ),
      ))
      ∙ sym (tree_object d s n h)

  list_local : (n : ℕ) (w : Widths) → head_of s ≡ header.List w → tree d (suc n) (s ++ u) ≡ tree d (suc n) s
  list_local n w h =
      let l = list_header s h own in
      tree_list d (s ++ u) n (head_same ∙ h)
      ∙ layered_alike (tree d n) (tree d n) w w s (s ++ u) (element_end w s) (element_end w (s ++ u)) (list.checks w s) (list.checks w (s ++ u))
      (list-appended.checks_same w s u l)
      (λ o. (
        counts w l,
        λ k q. (
          starts w l k (omega arith),
          ap (tree d n) (child_same w l (element_end w s) (element_end w (s ++ u)) k q (starts w l (k + 1) (omega arith)) (element_rises s w o k q)
              (omega (arith, element_inside s w o k q, list_inside s w o))),
        ),
      ))
      ∙ sym (tree_list d s n h)

  -- THE THEOREM
  pub local : (n : ℕ) → tree d n (s ++ u) ≡ tree d n s
  local zero =
      by_head s (λ l. tree_leaf d (s ++ u) 0 (rw head_same l) ∙ ap here (leaf-local.local s u (rw own refl)) ∙ sym (tree_leaf d s 0 l))
      (λ w h. object_deep d (s ++ u) (head_same ∙ h) ∙ sym (object_deep d s h)) (λ w h. list_deep d (s ++ u) (head_same ∙ h) ∙ sym (list_deep d s h))
  local (suc n) =
      by_head s (λ l. tree_leaf d (s ++ u) (suc n) (rw head_same l) ∙ ap here (leaf-local.local s u (rw own refl)) ∙ sym (tree_leaf d s (suc n) l))
      (object_local n) (list_local n)

-- FROM ONE END TO ANOTHER
module _ (w : List ℕ) where
  -- the longer part begins with the shorter
  split : (a e e' : ℕ) → e ≤ e' → part w a e ++ drop (e - a) (part w a e') ≡ part w a e'
  split a e e' r =
      let shorter : take (e - a) (part w a e') ≡ part w a e = take-take (e - a) (e' - a) (drop a w) (omega arith) in
      rw (← shorter) (take-append-drop (e - a) (part w a e'))

  -- a value that is good to one end is good to every other that its own length fits
  module _ (d : List ℕ) (over : dictionary.checks d ≡ pass) (limited : length w ≤ limit) where
    within : (a e : ℕ) → a ≤ e → e ≤ length w → length (part w a e) ≤ limit
    within a e p q = omega (arith, part_length w a e p q)

    pub recall : (h a e e' m : ℕ) → a ≤ e → e ≤ length w → a ≤ e' → e' ≤ length w → tree d h (part w a e) ≡ fine
        → own_length (part w a e') ≡ Ok m → tree d h (part w a e') ≡ fine
    recall h a e e' m p q p' q' good own = go (dec_le e e')
      where
        go : Dec (e ≤ e') → tree d h (part w a e') ≡ fine
        go (yes r) =
            let z = split a e e' r in
            let measured = good_measured d h (part w a e) good in
            (rw z at (local d over (part w a e) (drop (e - a) (part w a e')) measured.0 measured.1 (rw z (within a e' p' q')) h)) ∙ good
        go (no r) =
            let z = split a e' e (omega arith) in
            sym (rw z at (local d over (part w a e') (drop (e' - a) (part w a e)) m own (rw z (within a e p q)) h)) ∙ good
