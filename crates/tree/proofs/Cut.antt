-- An accepted tree whose outermost value is an object, cut anywhere before its end, is refused there as empty (50, no bytes) or short (23); over a
-- dictionary that is cut before its trimmed end, as that is (11 or 13). Assumes nothing.
use Rattle.rules.proofs.Prelude.{◌≡◌, refl, sym, ap, ◌∙◌, ◌⊎◌, inl, inr, ⊎_elim, Bool, ◌||◌, List}
use Rattle.rules.proofs.Prelude.{[], ◌∷◌, ◌++◌, ℕ, ◌≤◌, ◌<◌, dec_lt, arith, eqb, length, get_or}
use Rattle.rules.proofs.Prelude.{take, drop, take-append-drop, length-take, List·getD-append, accept, gives, first, Kept, Passed, StopsAs, pass, stop, cut_stops}
use Rattle.rules.proofs.Prelude.{passed, first_pass}
use Rattle.dictionary.specs.Limits.{limit}
use Rattle.dictionary.specs.Dictionary as dictionary
use Rattle.metadata.proofs.Cut.{stopped}
use Rattle.layout.specs.declared.Widths.{Widths}
use Rattle.layout.specs.Layout.{rules, end}
use Rattle.layout.proofs.Appended.{rules_kept, end_same}
use Rattle.encoding.specs.declared.Header.TheVariants as header
use Rattle.encoding.specs.Encoding.{header_of}
use Rattle.lengths.specs.Lengths.{bytes_of}
use Rattle.lengths.proofs.Laws.{of_none}
use Rattle.layer.specs.Object as object
use Rattle.layer.proofs.Alike as alike
use Rattle.layer.proofs.Laws as object-laws
use Rattle.leaf.specs.Meaning.Refusal.{header_cut}
use Rattle.leaf.proofs.Means as leaf-means
use Rattle.nodes.specs.Tree.{tree, field_end, verdict}
use Rattle.nodes.specs.Meaning.{head_of}
use Rattle.nodes.proofs.Laws.{fine_layer, tree_leaf, tree_object, here_stop}
use Rattle.nodes.proofs.Inside.{widths_are, is_two, laid, object_measured}
use Rattle.marked.proofs.Settled.{by_dictionary, by_tree, by_object, refused_by, all_levels}
use Rattle.tree.proofs.Accepts.{accepts, is_accepted}

-- THE DICTIONARY CUT
module _ (d v : List ℕ) (n e m : ℕ) (accepted : dictionary.verdict d ≡ accept (n ∷ e ∷ [])) (cut : m < e) where
  pub dictionary_cut : (verdict (take m d) v ≡ gives 11 (0 ∷ []) 0) ⊎ (verdict (take m d) v ≡ gives 13 (0 ∷ []) 0)
  dictionary_cut = go (stopped d n e m accepted cut)
    where
      go : StopsAs 11 13 (dictionary.checks (take m d)) → (verdict (take m d) v ≡ gives 11 (0 ∷ []) 0) ⊎ (verdict (take m d) v ≡ gives 13 (0 ∷ []) 0)
      go (inl x) = inl (sym (refused_by 0 (take m d) v (by_dictionary 0 (take m d) v x)))
      go (inr x) = inr (sym (refused_by 0 (take m d) v (by_dictionary 0 (take m d) v x)))

-- NO BYTES
none : (s : List ℕ) → length s < 1 → s ≡ []
none [] p = refl
none (b ∷ s) p = absurd (omega arith)

pub no_bytes : (d : List ℕ) → dictionary.checks d ≡ pass → verdict d [] ≡ gives 50 (0 ∷ []) 0
unfolding header_of limit
no_bytes d over =
    sym (refused_by 0 d []
    (by_tree 0 d [] over (omega arith) ∙ rw all_levels (tree_leaf d [] 32 tt ∙ here_stop (leaf-means.is_due [] (header_cut (sym (of_none [] (omega arith))))))))

-- THE VALUE CUT

-- the layout's refusal that more bytes lift
abbrev lifted : ℕ → Bool
lifted c = eqb c 23 || eqb c 23

module _ (d v : List ℕ) {w : Widths} (is : head_of v ≡ header.Object w) (m : ℕ) where
  whole : take m v ++ drop m v ≡ v
  whole = take-append-drop m v

  module _ (passes : object.checks d v ≡ pass) (before : m < end w v) where
    rules_pass : Passed (rules 0 0 0 w v)
    rules_pass = laid v is (passed (object.head_rules v) (object-laws.passes d v passes).header)

    -- its layout is cut, or longer than the bytes
    never : first (rules 23 24 23 w (take m v)) ≡ pass → ⊥
    never e =
        let p = passed (rules 23 24 23 w (take m v)) e in
        omega (arith, length-take m v, rw whole at (end_same w (take m v) (drop m v) (omega arith)))

    short : first (rules 23 24 23 w (take m v)) ≡ stop 23 0
    short =
        let kept : Kept lifted (rules 23 24 23 w (take m v)) (rules 23 24 23 w v) = rw whole at (rules_kept w (take m v) (drop m v) lifted 23 24 23 refl refl refl) in
        ⊎_elim (λ x. x) (λ x. x)
        (cut_stops 23 23 (rules 23 24 23 w (take m v)) (rules 23 24 23 w v) (omega arith) kept (first_pass (rules 23 24 23 w v) (omega (arith, rules_pass))) never)

    -- so the outermost object is, where a byte of it is left
    object_short : length v ≤ limit → 1 ≤ length (take m v) → verdict d (take m v) ≡ gives 23 (0 ∷ []) 0
    object_short fits some =
        let o = take m v in
        let byte : get_or v 0 0 ≡ get_or o 0 0 = rw whole at (List·getD-append o (drop m v) 0 0 some) in
        let again : head_of o ≡ header.Object w = ap header_of (sym byte) ∙ is in
        let long : length o ≤ limit = omega (arith, length-take m v) in
        let head : first (object.head_rules o) ≡ stop 23 0 = alike.then_laid o long some (is_two o again) ∙ (rw (widths_are o again) at short) in
        sym (refused_by 0 d o (by_object d o again long (object-laws.by_head d o (object-laws.passes d v passes).over head)))

  -- THE THEOREM
  pub value_cut : (e : ℕ) → verdict d v ≡ accept (0 ∷ e ∷ []) → m < e → (verdict d (take m v) ≡ gives 50 (0 ∷ []) 0) ⊎ (verdict d (take m v) ≡ gives 23 (0 ∷ []) 0)
  value_cut e accepted before =
      let g = (accepts d v e).0 accepted in
      let fine-is = sym (tree_object d v 31 is) ∙ is_accepted d g.0.good in
      let passes = (fine_layer (tree d 31) w v (field_end w v) (object.checks d v) fine-is).0 in
      let ends : end w v ≡ e = ap bytes_of (sym (object_measured v is d passes) ∙ g.1) in
      go passes (omega arith) g.0.not_long (dec_lt (length (take m v)) 1)
    where
      go : object.checks d v ≡ pass → m < end w v → length v ≤ limit → Dec (length (take m v) < 1)
          → (verdict d (take m v) ≡ gives 50 (0 ∷ []) 0) ⊎ (verdict d (take m v) ≡ gives 23 (0 ∷ []) 0)
      go passes before fits (no p) = inr (object_short passes before fits (omega arith))
      go passes before fits (yes p) = inl (rw (none (take m v) p) (no_bytes d (object-laws.passes d v passes).over))
