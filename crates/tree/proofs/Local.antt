-- A value is its own length of bytes: what follows it changes nothing, refusals further in included. And over a dictionary that passes, bytes
-- added to the dictionary change nothing. Assumes nothing.
use Rattle.rules.proofs.Prelude.{◌≡◌, refl, sym, ◌∙◌, List, ◌++◌, ℕ, zero, suc, ◌-◌, ◌≤◌, arith, length, length-append, Found, pass, stop}
use Rattle.std.specs.Prelude.{Ok}
use Rattle.dictionary.specs.Limits.{limit}
use Rattle.dictionary.specs.Dictionary as dictionary
use Rattle.lengths.specs.Lengths.{own_length}
use Rattle.lengths.proofs.Appended.{appended}
use Rattle.layer.specs.Object as object
use Rattle.object.proofs.Local.{checks_dictionary}
use Rattle.list.specs.List as list
use Rattle.nodes.specs.Tree.{field_end, element_end, tree, levels, checks_at, verdict_at}
use Rattle.nodes.proofs.Laws.{layered_alike, tree_leaf, tree_object, tree_list, object_deep, list_deep, by_head}
use Rattle.nodes.proofs.Local as nodes
use Rattle.marked.proofs.Settled.{by_dictionary, by_tree}

-- BYTES AFTER THE VALUE
module _ (d v u : List ℕ) (n : ℕ) (own : own_length v ≡ Ok n) (limited : length (v ++ u) ≤ limit) where
  checks_local : (depth : ℕ) → checks_at depth d (v ++ u) ≡ checks_at depth d v
  checks_local depth = go (dictionary.checks d) refl
    where
      go : (f : Found) → dictionary.checks d ≡ f → checks_at depth d (v ++ u) ≡ checks_at depth d v
      go (stop c p) e = by_dictionary depth d (v ++ u) e ∙ sym (by_dictionary depth d v e)
      go pass e =
          by_tree depth d (v ++ u) e limited
          ∙ nodes.local d e v u n own limited (levels - depth)
          ∙ sym (by_tree depth d v e (omega (arith, length-append v u)))

  pub verdict_local : (depth : ℕ) → verdict_at depth d (v ++ u) ≡ verdict_at depth d v
  unfolding verdict_at
  verdict_local depth = rw (checks_local depth, appended v u (rw own tt))

-- BYTES AFTER THE DICTIONARY
pub tree_dictionary : (d t : List ℕ) → dictionary.checks d ≡ pass → dictionary.checks (d ++ t) ≡ pass → (n : ℕ) (s : List ℕ) → tree (d ++ t) n s ≡ tree d n s
tree_dictionary d t over over' zero s =
    by_head s (λ l. tree_leaf (d ++ t) s 0 l ∙ sym (tree_leaf d s 0 l)) (λ w h. object_deep (d ++ t) s h ∙ sym (object_deep d s h))
    (λ w h. list_deep (d ++ t) s h ∙ sym (list_deep d s h))
tree_dictionary d t over over' (suc n) s =
    by_head s (λ l. tree_leaf (d ++ t) s (suc n) l ∙ sym (tree_leaf d s (suc n) l))
    (λ w h.
    tree_object (d ++ t) s n h
    ∙ layered_alike (tree d n) (tree (d ++ t) n) w w s s (field_end w s) (field_end w s) (object.checks d s) (object.checks (d ++ t) s)
    (checks_dictionary d t s over over') (λ _. (refl, λ k p. (refl, tree_dictionary d t over over' n _)))
    ∙ sym (tree_object d s n h))
    (λ w h.
    tree_list (d ++ t) s n h
    ∙ layered_alike (tree d n) (tree (d ++ t) n) w w s s (element_end w s) (element_end w s) (list.checks w s) (list.checks w s)
    refl (λ _. (refl, λ k p. (refl, tree_dictionary d t over over' n _)))
    ∙ sym (tree_list d s n h))
