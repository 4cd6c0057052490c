-- A tree is accepted, with the value's own length, exactly when it is a good one in the words of Meaning.antt of `nodes`. Assumes nothing.
use Rattle.rules.proofs.Prelude.{◌≡◌, sym, ap, ◌∙◌, ◌↔◌, List, [], ◌∷◌, ℕ, zero, suc, ◌-◌, accept, pass, passed, first}
use Rattle.std.specs.Prelude.{Ok}
use Rattle.dictionary.specs.Dictionary as dictionary
use Rattle.metadata.proofs.Means as dictionary-means
use Rattle.metadata.proofs.Accepts as dictionary-accepts
use Rattle.layout.specs.declared.Widths.{Widths}
use Rattle.layout.specs.Layout.{count, start, end}
use Rattle.encoding.specs.declared.Header.TheVariants as header
use Rattle.lengths.specs.Lengths.{own_length, bytes_of}
use Rattle.layer.specs.Object as object
use Rattle.layer.specs.Meaning.{Layer}
use Rattle.object.proofs.Means as object-means
use Rattle.object.proofs.Accepts as object-accepts
use Rattle.list.specs.List as list
use Rattle.list.proofs.Means as list_means
use Rattle.leaf.specs.Leaf.{leaf}
use Rattle.leaf.proofs.Means as leaf-means
use Rattle.nodes.specs.Tree.{here, field_end, element_end, tree, levels, checks_at, checks, verdict, verdict_at}
use Rattle.nodes.specs.Tree.Seen.{fine}
use Rattle.nodes.specs.Meaning.{head_of, IsLeaf, Good, GoodTree}
use Rattle.nodes.specs.Meaning.Good.{a_leaf, an_object, a_list}
use Rattle.nodes.proofs.Laws.{wrong_fine, both_fine, here_pass, here_fine, layer_fine, fine_layer, tree_leaf, tree_object, tree_list, object_deep, list_deep, by_head}
use Rattle.nodes.proofs.Inside.{count_is, start_is, end_of}
use Rattle.nodes.proofs.Local.{good_measured}
use Rattle.marked.proofs.Settled.{by_tree, all_levels, told_fine}

-- AN OBJECT'S LAYER, by its layout's numbers
pub object_good : (d s : List ℕ) {w : Widths} → head_of s ≡ header.Object w → object.checks d s ≡ pass → Layer d s (count w s) (start w s) (end w s)
object_good d s is e = rw (count_is s is, start_is s is, end_of s is) (object-means.good d s e)

module _ (d : List ℕ) where
  -- WHAT IS ACCEPTED IS GOOD
  leaf_good : (n : ℕ) (s : List ℕ) → IsLeaf (head_of s) → tree d n s ≡ fine → Good d n s
  leaf_good n s l e = a_leaf l (leaf-means.good s (here_fine (leaf s) (sym (tree_leaf d s n l) ∙ e)))

  pub is_good : (n : ℕ) (s : List ℕ) → tree d n s ≡ fine → Good d n s
  is_good zero s e =
      by_head s (λ l. leaf_good 0 s l e) (λ w h. wrong_fine (sym (object_deep d s h) ∙ e)) (λ w h. wrong_fine (sym (list_deep d s h) ∙ e))
  is_good (suc n) s e =
      by_head s (λ l. leaf_good (suc n) s l e)
      (λ w h.
      let f = fine_layer (tree d n) w s (field_end w s) (object.checks d s) (sym (tree_object d s n h) ∙ e) in
      an_object h (object_good d s h f.0) (λ k p. is_good n _ (f.1 k p)))
      (λ w h.
      let f = fine_layer (tree d n) w s (element_end w s) (list.checks w s) (sym (tree_list d s n h) ∙ e) in
      a_list h (list_means.good w s f.0) (λ k p. is_good n _ (f.1 k p)))

  -- WHAT IS GOOD IS ACCEPTED
  pub is_accepted : {n : ℕ} {s : List ℕ} → Good d n s → tree d n s ≡ fine
  is_accepted (a_leaf {n = n} {s = s} l g) = tree_leaf d s n l ∙ here_pass (leaf-means.all_pass s g)
  is_accepted (an_object {n = n} {s = s} {w = w} is l h) =
      tree_object d s n is ∙ layer_fine (tree d n) w s (field_end w s) (object-accepts.all_pass d s _ _ _ l) (λ k p. is_accepted (h k p))
  is_accepted (a_list {n = n} {s = s} {w = w} is l h) =
      tree_list d s n is ∙ layer_fine (tree d n) w s (element_end w s) (list_means.all_pass w s l) (λ k p. is_accepted (h k p))

  pub value_accepts : (n : ℕ) (s : List ℕ) → (tree d n s ≡ fine) ↔ Good d n s
  value_accepts n s = (is_good n s, is_accepted)

-- THE WHOLE
module _ (d v : List ℕ) where
  pub checks_good : checks d v ≡ fine → GoodTree d v
  unfolding checks_at
  checks_good e =
      let a = both_fine (here (dictionary.checks d)) _ e in
      let b = both_fine (here (first _)) (tree d (levels - 0) v) a.1 in
      record {
        over = dictionary-means.good d (here_fine _ a.0);
        not_long = (passed _ (here_fine _ b.0)).0;
        good = is_good d 32 v (rw all_levels at b.1);
      }

  pub good_checks : GoodTree d v → checks d v ≡ fine
  good_checks g = by_tree 0 d v (dictionary-accepts.all_pass d _ _ g.over) g.not_long ∙ rw all_levels (is_accepted d g.good)

  -- a good tree has an own length
  pub own_length_law : GoodTree d v → own_length v ≡ Ok (bytes_of (own_length v))
  own_length_law g = let m = good_measured d 32 v (is_accepted d g.good) in rw m.1

  -- THE THEOREM
  pub accepts : (e : ℕ) → (verdict d v ≡ accept (0 ∷ e ∷ [])) ↔ (GoodTree d v × (own_length v ≡ Ok e))
  unfolding verdict_at
  accepts e = (
    (λ a. let t = told_fine (bytes_of (own_length v)) (checks d v) a in
        let g = checks_good t.0 in
        (g, own_length_law g ∙ ap Ok t.1)),
    λ g. let own : bytes_of (own_length v) ≡ e = rw g.1 in rw (good_checks g.0, own),
  )
