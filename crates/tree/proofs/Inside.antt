-- What stands in a good tree is a good tree of its own; and every field of every object in it is found by the lookup on that object, by its name
-- and as what it is. Assumes nothing.
use Rattle.rules.proofs.Prelude.{◌≡◌, refl, sym, ◌∙◌, List, [], ◌∷◌, ℕ, ◌≤◌, ◌<◌, arith, length, accept, pass}
use Rattle.part.proofs.Laws.{part_length}
use Rattle.layout.specs.declared.Widths.{Widths}
use Rattle.layout.specs.Layout.{count, child_start, end}
use Rattle.encoding.specs.declared.Header.TheVariants as header
use Rattle.layer.specs.Object as object
use Rattle.layer.specs.Object.{field_name}
use Rattle.list.specs.List as list
use Rattle.lookup.specs.ByName.{lookup}
use Rattle.lookup.proofs.Finds as lookup
use Rattle.object.proofs.Means as object-means
use Rattle.nodes.specs.Tree.{field_end, element_end, tree}
use Rattle.nodes.specs.Tree.Seen.{fine}
use Rattle.nodes.specs.Meaning.{head_of, child_of, GoodTree, Inside}
use Rattle.nodes.specs.Meaning.Inside.{itself, in_object, in_list}
use Rattle.nodes.proofs.Laws.{fine_layer, tree_object, tree_list, more_levels}
use Rattle.nodes.proofs.Inside.{count_is, start_is, end_of, offset_is, field_rises, object_inside, element_rises, element_inside, list_inside}
use Rattle.tree.proofs.Accepts.{is_good, is_accepted}

-- a part that is good with 31 levels left, over the same dictionary, is a good tree
own_tree : (d v s : List ℕ) → GoodTree d v → length s ≤ length v → tree d 31 s ≡ fine → GoodTree d s
own_tree d v s g short e = record { over = g.over; not_long = omega (arith, g.not_long); good = is_good d 32 s (more_levels d 31 32 (omega arith) s e) }

module _ (d s : List ℕ) {w : Widths} where
  -- A CHILD OF A GOOD OBJECT, AND OF A GOOD LIST
  layer_passes : GoodTree d s → head_of s ≡ header.Object w → (object.checks d s ≡ pass) × ((k : ℕ) → k < count w s → tree d 31 (child_of w s (field_end w s) k) ≡ fine)
  layer_passes g is = fine_layer (tree d 31) w s (field_end w s) (object.checks d s) (sym (tree_object d s 31 is) ∙ is_accepted d g.good)

  pub field_good : GoodTree d s → head_of s ≡ header.Object w → (k : ℕ) → k < count w s → GoodTree d (child_of w s (field_end w s) k)
  field_good g is k p =
      let l = layer_passes g is in
      let ends = object_inside s is d l.0 in
      own_tree d s _ g (omega (arith, part_length s (child_start w s k) (end w s) (field_rises s is d l.0 k p) ends)) (l.1 k p)

  pub element_good : GoodTree d s → head_of s ≡ header.List w → (k : ℕ) → k < count w s → GoodTree d (child_of w s (element_end w s) k)
  element_good g is k p =
      let l = fine_layer (tree d 31) w s (element_end w s) (list.checks w s) (sym (tree_list d s 31 is) ∙ is_accepted d g.good) in
      let ends : element_end w s k ≤ length s = omega (arith, element_inside s w l.0 k p, list_inside s w l.0) in
      own_tree d s _ g (omega (arith, part_length s (child_start w s k) (element_end w s k) (element_rises s w l.0 k p) ends)) (l.1 k p)

  -- A FIELD IS FOUND by its name
  field_found : GoodTree d s → head_of s ≡ header.Object w → (k : ℕ) → k < count w s
      → lookup d s (field_name d s k) ≡ accept (k ∷ object.id s k ∷ child_start w s k ∷ end w s ∷ [])
  field_found g is k p =
      let good = object-means.good d s (layer_passes g is).0 in
      let at : k < object.count s = omega (arith, count_is s is) in
      rw (start_is s is, offset_is s is k, end_of s is)
      ((lookup.found d s (field_name d s k) k (object.id s k) _ _).1 (lookup.by_name d s (field_name d s k) good k at refl))

-- THE THEOREMS
pub good_inside : (d v s : List ℕ) → GoodTree d v → Inside v s → GoodTree d s
good_inside d v s g itself = g
good_inside d v s g (in_object {k = k} {s = o} i is p) = field_good d o (good_inside d v o g i) is k p
good_inside d v s g (in_list {k = k} {s = o} i is p) = element_good d o (good_inside d v o g i) is k p

pub found_inside : (d v s : List ℕ) {w : Widths} → GoodTree d v → Inside v s → head_of s ≡ header.Object w → (k : ℕ) → k < count w s
    → lookup d s (field_name d s k) ≡ accept (k ∷ object.id s k ∷ child_start w s k ∷ end w s ∷ [])
found_inside d v s g i is k p = field_found d s (good_inside d v s g i) is k p
