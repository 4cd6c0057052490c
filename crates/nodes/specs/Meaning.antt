-- What a good tree is, in the words of document 02, h), and when each refusal is due. Accepts.antt and Refuses.antt of `tree` show that the
-- verdict of Tree.antt says the same. Assumes nothing.
use Rattle.std.specs.Prelude.{◌≡◌, List, ℕ, suc, ◌+◌, ◌≤◌, ◌<◌, length}
use Rattle.part.specs.Part.{part}
use Rattle.dictionary.specs.Limits.{limit}
use Rattle.dictionary.specs.Dictionary as dictionary
use Rattle.dictionary.specs.Meaning as dictionary-meaning
use Rattle.layout.specs.declared.Widths.{Widths}
use Rattle.layout.specs.Layout.{count, child_start, start, end}
use Rattle.encoding.specs.declared.Header.TheVariants as header
use Rattle.layer.specs.Meaning as object
use Rattle.list.specs.Meaning as list
use Rattle.leaf.specs.Meaning as leaf
pub use Rattle.leaf.specs.Leaf.{head_of, IsLeaf}
use Rattle.nodes.specs.Tree.{field_end, element_end}

abbrev pub child_of : Widths → List ℕ → (high : ℕ → ℕ) → ℕ → List ℕ
child_of w s high k = part s (child_start w s k) (high k)

-- A GOOD VALUE over an accepted dictionary, at most so many levels of containers high
pub data Good (d : List ℕ) : ℕ → List ℕ → Type 0 where
  a_leaf : {n : ℕ} {s : List ℕ} → IsLeaf (head_of s) → leaf.GoodLeaf s → Good d n s
  an_object : {n : ℕ} {s : List ℕ} {w : Widths} → head_of s ≡ header.Object w → object.Layer d s (count w s) (start w s) (end w s)
      → ((k : ℕ) → k < count w s → Good d n (child_of w s (field_end w s) k)) → Good d (suc n) s
  a_list : {n : ℕ} {s : List ℕ} {w : Widths} → head_of s ≡ header.List w → list.ListLayer w s
      → ((k : ℕ) → k < count w s → Good d n (child_of w s (element_end w s) k)) → Good d (suc n) s

-- A GOOD TREE: at most 32 levels, over an accepted dictionary, within the limit
pub record GoodTree (d v : List ℕ) : Type 0 where
  pub over : dictionary-meaning.Dictionary d (dictionary.count d) (dictionary.end d)
  pub not_long : length v ≤ limit
  pub good : Good d 32 v

-- WHEN A REFUSAL IS DUE of a value below which so many levels may come: its number, its place in its own layer, and where that value starts
pub data Due (d : List ℕ) : ℕ → List ℕ → (code place start : ℕ) → Type 0 where
  of_leaf : {n : ℕ} {s : List ℕ} {c p : ℕ} → IsLeaf (head_of s) → leaf.Refusal s c p → Due d n s c p 0
  deep_object : {s : List ℕ} {w : Widths} → head_of s ≡ header.Object w → Due d 0 s 52 0 0
  deep_list : {s : List ℕ} {w : Widths} → head_of s ≡ header.List w → Due d 0 s 52 0 0
  of_object : {n : ℕ} {s : List ℕ} {w : Widths} {c p : ℕ} → head_of s ≡ header.Object w → object.Refusal d s c p → Due d (suc n) s c p 0
  of_list : {n : ℕ} {s : List ℕ} {w : Widths} {c p : ℕ} → head_of s ≡ header.List w → list.Refusal w s c p → Due d (suc n) s c p 0
  in_field : {n k : ℕ} {s : List ℕ} {w : Widths} {c p a : ℕ} → head_of s ≡ header.Object w → object.Layer d s (count w s) (start w s) (end w s)
      → k < count w s → ((j : ℕ) → j < k → Good d n (child_of w s (field_end w s) j)) → Due d n (child_of w s (field_end w s) k) c p a
      → Due d (suc n) s c p (child_start w s k + a)
  in_element : {n k : ℕ} {s : List ℕ} {w : Widths} {c p a : ℕ} → head_of s ≡ header.List w → list.ListLayer w s
      → k < count w s → ((j : ℕ) → j < k → Good d n (child_of w s (element_end w s) j)) → Due d n (child_of w s (element_end w s) k) c p a
      → Due d (suc n) s c p (child_start w s k + a)

-- of the whole: the dictionary's refusals, with start 0; then 20; then the first of the tree's
pub data Refusal (d v : List ℕ) : (code place start : ℕ) → Type 0 where
  of_dictionary : {c p : ℕ} → dictionary-meaning.Refusal d c p → Refusal d v c p 0
  too_long : dictionary-meaning.Dictionary d (dictionary.count d) (dictionary.end d) → limit < length v → Refusal d v 20 0 0
  of_value : {c p a : ℕ} → dictionary-meaning.Dictionary d (dictionary.count d) (dictionary.end d) → length v ≤ limit → Due d 32 v c p a
      → Refusal d v c p a

-- WHAT STANDS IN A VALUE: itself, and each child of an object or a list that does
pub data Inside (v : List ℕ) : List ℕ → Type 0 where
  itself : Inside v v
  in_object : {k : ℕ} {s : List ℕ} {w : Widths} → Inside v s → head_of s ≡ header.Object w → k < count w s → Inside v (child_of w s (field_end w s) k)
  in_list : {k : ℕ} {s : List ℕ} {w : Widths} → Inside v s → head_of s ≡ header.List w → k < count w s → Inside v (child_of w s (element_end w s) k)
