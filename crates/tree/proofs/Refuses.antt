-- A tree is refused, with a number, a place and the start of the value that it is of, exactly when that refusal is due in the words of
-- Meaning.antt of `nodes`; and it is accepted exactly when none is. Assumes nothing.
use Rattle.rules.proofs.Prelude.{◌≡◌, refl, sym, ◌∙◌, ◌↔◌, ◌⊎◌, inl, inr, List, [], ◌∷◌, ℕ, zero, suc, ◌+◌, ◌<◌, dec_lt, arith, length, gives, Found}
use Rattle.rules.proofs.Prelude.{pass, stop, meant_stop}
use Rattle.dictionary.specs.Limits.{limit}
use Rattle.dictionary.specs.Dictionary as dictionary
use Rattle.metadata.proofs.Means as dictionary-means
use Rattle.metadata.proofs.Accepts as dictionary-accepts
use Rattle.metadata.proofs.Refuses as dictionary-refuses
use Rattle.layout.specs.declared.Widths.{Widths}
use Rattle.layout.specs.Layout.{count, child_start}
use Rattle.encoding.specs.declared.Header.TheVariants as header
use Rattle.lengths.specs.Lengths.{own_length, bytes_of}
use Rattle.layer.specs.Object as object
use Rattle.object.proofs.Means as object-means
use Rattle.object.proofs.Accepts as object-accepts
use Rattle.object.proofs.Refuses as object-refuses
use Rattle.list.specs.List as list
use Rattle.list.proofs.Means as list_means
use Rattle.leaf.specs.Leaf.{leaf}
use Rattle.leaf.proofs.Means as leaf-means
use Rattle.nodes.specs.Tree.{Seen, ◌and_then◌, here, in_order, child, children, layered, field_end, element_end, tree, checks, verdict, verdict_at}
use Rattle.nodes.specs.Tree.Seen.{fine, wrong}
use Rattle.nodes.specs.Meaning.{head_of, IsLeaf, child_of, GoodTree, Due, Refusal}
use Rattle.nodes.specs.Meaning.Due.{of_leaf, deep_object, deep_list, of_object, of_list, in_field, in_element}
use Rattle.nodes.specs.Meaning.Refusal.{of_dictionary, too_long, of_value}
use Rattle.nodes.proofs.Laws.{wrong_fine, here_stop, wrong_from, fine_from, fine_all, own_stops, own_passes, child_wrong, tree_leaf, tree_object, tree_list}
use Rattle.nodes.proofs.Laws.{object_deep, list_deep, by_head}
use Rattle.marked.proofs.Settled.{by_dictionary, by_tree, all_levels, told_wrong}
use Rattle.marked.proofs.Settled as settled
use Rattle.tree.proofs.Accepts.{object_good, is_good, is_accepted, checks_good, good_checks}

-- WHICH ONE
which : (f : ℕ → Seen) (n : ℕ) {c p a : ℕ} → in_order f n ≡ wrong c p a → (k : ℕ) × (k < n) × ((j : ℕ) → j < k → f j ≡ fine) × (f k ≡ wrong c p a)
unfolding in_order ◌and_then◌
which f zero e = wrong_fine (sym e)
which f (suc n) {c} {p} {a} e = go (in_order f n) refl e (which f n)
  where
    go : (x : Seen) → in_order f n ≡ x → (x and_then f n) ≡ wrong c p a
        → (in_order f n ≡ wrong c p a → (k : ℕ) × (k < n) × ((j : ℕ) → j < k → f j ≡ fine) × (f k ≡ wrong c p a))
        → (k : ℕ) × (k < suc n) × ((j : ℕ) → j < k → f j ≡ fine) × (f k ≡ wrong c p a)
    go fine x e r = (n, omega arith, fine_all f n x, e)
    go (wrong c' p' a') x e r = let w = r (x ∙ e) in (w.0, omega arith, w.2, w.3)

here_wrong : (f : Found) {c p a : ℕ} → here f ≡ wrong c p a → (f ≡ stop c p) × (a ≡ 0)
unfolding here
here_wrong pass e = wrong_fine (sym e)
here_wrong (stop c' p') {c} {p} {a} e =
    let c-is : c' ≡ c = cc in
    let p-is : p' ≡ p = cc in
    let a-is : a ≡ 0 = cc in (rw (c-is, p-is), a-is)

-- the first child that is refused, and what is found in it
module _ (check : List ℕ → Seen) (w : Widths) (s : List ℕ) (high : ℕ → ℕ) where
  pub record FirstBad (c p a : ℕ) : Type 0 where
    pub which_one : ℕ
    pub start_in : ℕ
    pub there : which_one < count w s
    pub before : (j : ℕ) → j < which_one → check (child_of w s high j) ≡ fine
    pub bad : check (child_of w s high which_one) ≡ wrong c p start_in
    pub start_is : a ≡ child_start w s which_one + start_in

  children_wrong : {c p a : ℕ} → children check w s high ≡ wrong c p a → FirstBad c p a
  unfolding children child
  children_wrong e =
      let k = which (child check w s high) (count w s) e in
      let i = wrong_from (child_start w s k.0) _ k.3 in
      record { which_one = k.0; start_in = i.0; there = k.1; before = λ j q. fine_from (child_start w s j) _ (k.2 j q); bad = i.1; start_is = i.2 }

  -- a layer is refused by its own checks, or by its first child that is
  pub layer_wrong : (o : Found) {c p a : ℕ} → layered check o w s high ≡ wrong c p a → ((o ≡ stop c p) × (a ≡ 0)) ⊎ ((o ≡ pass) × FirstBad c p a)
  layer_wrong pass e = inr (refl, children_wrong (sym (own_passes check w s high refl) ∙ e))
  layer_wrong (stop c' p') e = inl (here_wrong (stop c' p') (here_stop refl ∙ sym (own_stops check w s high refl) ∙ e))

module _ (d : List ℕ) where
  -- EACH REFUSAL THAT IS GIVEN IS DUE
  leaf_due : (n : ℕ) (s : List ℕ) {c p a : ℕ} → IsLeaf (head_of s) → tree d n s ≡ wrong c p a → Due d n s c p a
  leaf_due n s l e =
      let h = here_wrong (leaf s) (sym (tree_leaf d s n l) ∙ e) in
      rw h.1 (of_leaf l (meant_stop (leaf-means.mean s) h.0))

  deep_due : (s : List ℕ) {c p a : ℕ} → wrong 52 0 0 ≡ wrong c p a → Due d 0 s 52 0 0 → Due d 0 s c p a
  deep_due s {c} {p} {a} e due =
      let c-is : 52 ≡ c = cc in
      let p-is : 0 ≡ p = cc in
      let a-is : 0 ≡ a = cc in rw (← c-is, ← p-is, ← a-is) due

  object_due : (n : ℕ) (s : List ℕ) {c p a : ℕ} (w : Widths) → head_of s ≡ header.Object w → ((t : List ℕ) (b : ℕ) → tree d n t ≡ wrong c p b → Due d n t c p b)
      → ((object.checks d s ≡ stop c p) × (a ≡ 0)) ⊎ ((object.checks d s ≡ pass) × FirstBad (tree d n) w s (field_end w s) c p a) → Due d (suc n) s c p a
  object_due n s w h r (inl o) = rw o.1 (of_object h (meant_stop (object-means.checks_mean d s) o.0))
  object_due n s w h r (inr o) =
      let b = o.1 in
      rw b.start_is (in_field h (object_good d s h o.0) b.there (λ j q. is_good d n _ (b.before j q)) (r _ b.start_in b.bad))

  list_due : (n : ℕ) (s : List ℕ) {c p a : ℕ} (w : Widths) → head_of s ≡ header.List w → ((t : List ℕ) (b : ℕ) → tree d n t ≡ wrong c p b → Due d n t c p b)
      → ((list.checks w s ≡ stop c p) × (a ≡ 0)) ⊎ ((list.checks w s ≡ pass) × FirstBad (tree d n) w s (element_end w s) c p a) → Due d (suc n) s c p a
  list_due n s w h r (inl o) = rw o.1 (of_list h (meant_stop (list_means.checks_mean w s) o.0))
  list_due n s w h r (inr o) =
      let b = o.1 in
      rw b.start_is (in_element h (list_means.good w s o.0) b.there (λ j q. is_good d n _ (b.before j q)) (r _ b.start_in b.bad))

  pub is_due : (n : ℕ) (s : List ℕ) {c p a : ℕ} → tree d n s ≡ wrong c p a → Due d n s c p a
  is_due zero s e =
      by_head s (λ l. leaf_due 0 s l e) (λ w h. deep_due s (sym (object_deep d s h) ∙ e) (deep_object h))
      (λ w h. deep_due s (sym (list_deep d s h) ∙ e) (deep_list h))
  is_due (suc n) s e =
      by_head s (λ l. leaf_due (suc n) s l e)
      (λ w h. object_due n s w h (λ t b q. is_due n t q) (layer_wrong (tree d n) w s (field_end w s) (object.checks d s) (sym (tree_object d s n h) ∙ e)))
      (λ w h. list_due n s w h (λ t b q. is_due n t q) (layer_wrong (tree d n) w s (element_end w s) (list.checks w s) (sym (tree_list d s n h) ∙ e)))

  -- EACH REFUSAL THAT IS DUE IS GIVEN
  pub is_given : {n : ℕ} {s : List ℕ} {c p a : ℕ} → Due d n s c p a → tree d n s ≡ wrong c p a
  is_given (of_leaf {n = n} {s = s} l r) = tree_leaf d s n l ∙ here_stop (leaf-means.is_due s r)
  is_given (deep_object {s = s} h) = object_deep d s h
  is_given (deep_list {s = s} h) = list_deep d s h
  is_given (of_object {n = n} {s = s} {w = w} h r) = tree_object d s n h ∙ own_stops (tree d n) w s (field_end w s) (object-refuses.is_due d s r)
  is_given (of_list {n = n} {s = s} {w = w} h r) = tree_list d s n h ∙ own_stops (tree d n) w s (element_end w s) (list_means.is_due w s r)
  is_given (in_field {n = n} {k = k} {s = s} {w = w} h l q before due) =
      tree_object d s n h
      ∙ own_passes (tree d n) w s (field_end w s) (object-accepts.all_pass d s _ _ _ l)
      ∙ child_wrong (tree d n) w s (field_end w s) k q (λ j i. is_accepted d (before j i)) (is_given due)
  is_given (in_element {n = n} {k = k} {s = s} {w = w} h l q before due) =
      tree_list d s n h
      ∙ own_passes (tree d n) w s (element_end w s) (list_means.all_pass w s l)
      ∙ child_wrong (tree d n) w s (element_end w s) k q (λ j i. is_accepted d (before j i)) (is_given due)

  pub value_refuses : (n : ℕ) (s : List ℕ) (c p a : ℕ) → (tree d n s ≡ wrong c p a) ↔ Due d n s c p a
  value_refuses n s c p a = (is_due n s, is_given)

-- THE WHOLE
module _ (d v : List ℕ) where
  first_wrong_due : {c p a : ℕ} → checks d v ≡ wrong c p a → Refusal d v c p a
  first_wrong_due {c} {p} {a} e = go (dictionary.checks d) refl (dec_lt limit (length v))
    where
      go : (f : Found) → dictionary.checks d ≡ f → Dec (limit < length v) → Refusal d v c p a
      go (stop c' p') x l =
          let h = here_wrong (stop c' p') (here_stop refl ∙ sym (by_dictionary 0 d v x) ∙ e) in
          rw h.1 (of_dictionary (meant_stop (dictionary-means.checks_mean d) (x ∙ h.0)))
      go pass x (yes l) =
          let z = sym (settled.too_long 0 d v x l) ∙ e in
          let c-is : 20 ≡ c = cc in
          let p-is : 0 ≡ p = cc in
          let a-is : 0 ≡ a = cc in rw (← c-is, ← p-is, ← a-is) (too_long (dictionary-means.good d x) l)
      go pass x (no l) =
          of_value (dictionary-means.good d x) (omega arith)
          (is_due d 32 v ((rw all_levels at (sym (by_tree 0 d v x (omega arith)))) ∙ e))

  due_first_wrong : {c p a : ℕ} → Refusal d v c p a → checks d v ≡ wrong c p a
  due_first_wrong (of_dictionary r) = by_dictionary 0 d v (dictionary-refuses.is_due d r)
  due_first_wrong (too_long over l) = settled.too_long 0 d v (dictionary-accepts.all_pass d _ _ over) l
  due_first_wrong (of_value over l due) = by_tree 0 d v (dictionary-accepts.all_pass d _ _ over) l ∙ rw all_levels (is_given d due)

  -- THE THEOREM
  pub refuses : (c p a : ℕ) → (verdict d v ≡ gives c (a ∷ []) p) ↔ Refusal d v c p a
  unfolding verdict_at
  refuses c p a = ((λ e. first_wrong_due (told_wrong (bytes_of (own_length v)) (checks d v) e)), λ r. rw (due_first_wrong r))

  -- ACCEPTED EXACTLY WHEN NO REFUSAL IS DUE
  pub none_due : GoodTree d v ↔ ((c p a : ℕ) → Refusal d v c p a → ⊥)
  none_due = ((λ g c p a r. wrong_fine (sym (due_first_wrong r) ∙ good_checks d v g)), λ none. go (checks d v) refl none)
    where
      go : (x : Seen) → checks d v ≡ x → ((c p a : ℕ) → Refusal d v c p a → ⊥) → GoodTree d v
      go fine e none = checks_good d v e
      go (wrong c p a) e none = absurd (none c p a (first_wrong_due e))
