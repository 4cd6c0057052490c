-- Laws of the tree's check: what a sequence and a layer come to, what a value is by its header, and that what is good stays good where more
-- levels are left. Assumes nothing.
use Rattle.rules.proofs.Prelude.{◌≡◌, refl, sym, ◌∙◌, List, ℕ, zero, suc, ◌+◌, ◌≤◌, ◌<◌, arith, dec_lt, Found, pass, stop, and_last}
use Rattle.layout.specs.declared.Widths.{Widths}
use Rattle.layout.specs.Layout.{count, child_start}
use Rattle.encoding.specs.declared.Header.{Header}
use Rattle.encoding.specs.declared.Header.TheVariants as header
use Rattle.layer.specs.Object as object
use Rattle.list.specs.List as list
use Rattle.leaf.specs.Leaf.{leaf}
use Rattle.nodes.specs.Tree.{Seen, ◌and_then◌, here, from, in_order, child, children, layered, field_end, object_by, element_end, list_by, value_by, tree}
use Rattle.nodes.specs.Tree.Seen.{fine, wrong}
use Rattle.nodes.specs.Meaning.{head_of, IsLeaf, child_of}

pub wrong_fine : {A : Type 0} {c p a : ℕ} → wrong c p a ≡ fine → A
wrong_fine e = let z : ◌≡◌ {A = ℕ} 0 1 = cc in absurd (omega arith)

-- SEQUENCES

pub first_wrong : {x : Seen} {c p a : ℕ} (next : Seen) → x ≡ wrong c p a → (x and_then next) ≡ wrong c p a
unfolding ◌and_then◌
first_wrong next e = rw e

pub then_next : {x : Seen} (next : Seen) → x ≡ fine → (x and_then next) ≡ next
unfolding ◌and_then◌
then_next next e = rw e

pub both_fine : (x next : Seen) → (x and_then next) ≡ fine → (x ≡ fine) × (next ≡ fine)
unfolding ◌and_then◌
both_fine fine next e = (refl, e)
both_fine (wrong c p a) next e = wrong_fine e

pub here_pass : {f : Found} → f ≡ pass → here f ≡ fine
unfolding here
here_pass e = rw e

pub here_stop : {f : Found} {c p : ℕ} → f ≡ stop c p → here f ≡ wrong c p 0
unfolding here
here_stop e = rw e

pub here_fine : (f : Found) → here f ≡ fine → f ≡ pass
unfolding here
here_fine pass e = refl
here_fine (stop c p) e = wrong_fine e

pub from_fine : (a : ℕ) {x : Seen} → x ≡ fine → from a x ≡ fine
unfolding from
from_fine a e = rw e

pub fine_from : (a : ℕ) (x : Seen) → from a x ≡ fine → x ≡ fine
unfolding from
fine_from a fine e = refl
fine_from a (wrong c p s) e = wrong_fine e

-- a part of a part
pub from_from : (a b : ℕ) (x : Seen) → from a (from b x) ≡ from (a + b) x
unfolding from
from_from a b fine = refl
from_from a b (wrong c p s) = let e : a + (b + s) ≡ a + b + s = omega arith in rw e

pub from_wrong : (a : ℕ) {x : Seen} {c p s : ℕ} → x ≡ wrong c p s → from a x ≡ wrong c p (a + s)
unfolding from
from_wrong a e = rw e

-- a refusal of the value at hand, said from where it starts
pub at_start : (a : ℕ) {x : Seen} {c p : ℕ} → x ≡ wrong c p 0 → from a x ≡ wrong c p a
at_start a e = let z : a + 0 ≡ a = omega arith in from_wrong a e ∙ rw z

-- and a refusal that is said from a is one
pub wrong_from : (a : ℕ) (x : Seen) {c p at : ℕ} → from a x ≡ wrong c p at → (s : ℕ) × (x ≡ wrong c p s) × (at ≡ a + s)
unfolding from
wrong_from a fine e = wrong_fine (sym e)
wrong_from a (wrong c' p' s) {c} {p} {at} e =
    let c-is : c' ≡ c = cc in
    let p-is : p' ≡ p = cc in
    let at-is : at ≡ a + s = cc in (s, rw (c-is, p-is), at-is)

-- ONE AFTER ANOTHER

module _ (f : ℕ → Seen) where
  pub all_fine : (n : ℕ) → ((k : ℕ) → k < n → f k ≡ fine) → in_order f n ≡ fine
  unfolding in_order
  all_fine zero h = refl
  all_fine (suc n) h = then_next (f n) (all_fine n (λ k p. h k (omega arith))) ∙ h n (omega arith)

  pub fine_all : (n : ℕ) → in_order f n ≡ fine → (k : ℕ) → k < n → f k ≡ fine
  unfolding in_order
  fine_all zero e = λ k p. absurd (omega arith)
  fine_all (suc n) e = let w = both_fine (in_order f n) (f n) e in and_last (λ k. f k ≡ fine) n (fine_all n w.0) w.1

  pub first_one : (n k : ℕ) {c p a : ℕ} → k < n → ((j : ℕ) → j < k → f j ≡ fine) → f k ≡ wrong c p a → in_order f n ≡ wrong c p a
  unfolding in_order
  first_one zero k q h e = absurd (omega arith)
  first_one (suc n) k {c} {p} {a} q h e = go (dec_lt k n) (λ w. first_one n k w h e)
    where
      go : Dec (k < n) → (k < n → in_order f n ≡ wrong c p a) → (in_order f n and_then f n) ≡ wrong c p a
      go (yes w) r = first_wrong (f n) (r w)
      go (no w) r = let z : k ≡ n = omega arith in rw (← z) (then_next (f k) (all_fine k h) ∙ e)

pub same_order : (f g : ℕ → Seen) (n : ℕ) → ((k : ℕ) → k < n → f k ≡ g k) → in_order f n ≡ in_order g n
unfolding in_order
same_order f g zero h = refl
same_order f g (suc n) h = rw (same_order f g n (λ k p. h k (omega arith)), h n (omega arith))

-- A LAYER

module _ (check : List ℕ → Seen) (w : Widths) (s : List ℕ) (high : ℕ → ℕ) where
  -- what it comes to where its own checks stop, and where they pass
  pub own_stops : {o : Found} {c p : ℕ} → o ≡ stop c p → layered check o w s high ≡ wrong c p 0
  unfolding layered
  own_stops e = first_wrong _ (here_stop e)

  pub own_passes : {o : Found} → o ≡ pass → layered check o w s high ≡ children check w s high
  unfolding layered
  own_passes e = then_next _ (here_pass e)

  -- its children, all good; and the first that is not
  pub children_fine : ((k : ℕ) → k < count w s → check (child_of w s high k) ≡ fine) → children check w s high ≡ fine
  unfolding children child
  children_fine h = all_fine (child check w s high) (count w s) (λ k p. from_fine (child_start w s k) (h k p))

  pub fine_children : children check w s high ≡ fine → (k : ℕ) → k < count w s → check (child_of w s high k) ≡ fine
  unfolding children child
  fine_children e k p = fine_from (child_start w s k) _ (fine_all (child check w s high) (count w s) e k p)

  pub child_wrong : (k : ℕ) {c p a : ℕ} → k < count w s → ((j : ℕ) → j < k → check (child_of w s high j) ≡ fine)
      → check (child_of w s high k) ≡ wrong c p a → children check w s high ≡ wrong c p (child_start w s k + a)
  unfolding children child
  child_wrong k q h e =
      first_one (child check w s high) (count w s) k q (λ j r. from_fine (child_start w s j) (h j r)) (from_wrong (child_start w s k) e)

  pub fine_layer : (o : Found) → layered check o w s high ≡ fine → (o ≡ pass) × ((k : ℕ) → k < count w s → check (child_of w s high k) ≡ fine)
  unfolding layered
  fine_layer o e = let w = both_fine (here o) _ e in (here_fine o w.0, fine_children w.1)

  pub layer_fine : {o : Found} → o ≡ pass → ((k : ℕ) → k < count w s → check (child_of w s high k) ≡ fine) → layered check o w s high ≡ fine
  layer_fine e h = own_passes e ∙ children_fine h

-- two layers of one meaning: the same own checks, and where these pass the same children, checked alike
module _ (check check' : List ℕ → Seen) (w w' : Widths) (s s' : List ℕ) (high high' : ℕ → ℕ) where
  children_alike : count w' s' ≡ count w s
      → ((k : ℕ) → k < count w s → (child_start w' s' k ≡ child_start w s k) × (check' (child_of w' s' high' k) ≡ check (child_of w s high k)))
      → children check' w' s' high' ≡ children check w s high
  unfolding children child
  children_alike n h = rw n (same_order (child check' w' s' high') (child check w s high) (count w s) (λ k p. let q = h k p in rw (q.1, q.0)))

  pub layered_alike : (o o' : Found) → o' ≡ o
      → (o ≡ pass → (count w' s' ≡ count w s)
      × ((k : ℕ) → k < count w s → (child_start w' s' k ≡ child_start w s k) × (check' (child_of w' s' high' k) ≡ check (child_of w s high k))))
      → layered check' o' w' s' high' ≡ layered check o w s high
  layered_alike pass o' e h = own_passes check' w' s' high' e ∙ children_alike (h refl).0 (h refl).1 ∙ sym (own_passes check w s high refl)
  layered_alike (stop c p) o' e h = own_stops check' w' s' high' e ∙ sym (own_stops check w s high refl)

-- WHAT A VALUE IS, BY ITS HEADER

module _ (d s : List ℕ) where
  pub tree_leaf : (n : ℕ) → IsLeaf (head_of s) → tree d n s ≡ here (leaf s)
  unfolding tree value_by
  tree_leaf n = go n (head_of s) refl
    where
      go : (n : ℕ) (h : Header) → head_of s ≡ h → IsLeaf h → tree d n s ≡ here (leaf s)
      go zero (header.Primitive t) e l = rw e
      go (suc n) (header.Primitive t) e l = rw e
      go zero (header.ShortString k) e l = rw e
      go (suc n) (header.ShortString k) e l = rw e
      go n (header.Object w) e l = absurd l
      go n (header.List w) e l = absurd l

  module _ {w : Widths} where
    pub object_deep : head_of s ≡ header.Object w → tree d 0 s ≡ wrong 52 0 0
    unfolding tree value_by
    object_deep e = rw e

    pub list_deep : head_of s ≡ header.List w → tree d 0 s ≡ wrong 52 0 0
    unfolding tree value_by
    list_deep e = rw e

    pub tree_object : (n : ℕ) → head_of s ≡ header.Object w → tree d (suc n) s ≡ layered (tree d n) (object.checks d s) w s (field_end w s)
    unfolding tree value_by object_by
    tree_object n e = rw e

    pub tree_list : (n : ℕ) → head_of s ≡ header.List w → tree d (suc n) s ≡ layered (tree d n) (list.checks w s) w s (element_end w s)
    unfolding tree value_by list_by
    tree_list n e = rw e

-- by cases of the header
pub by_head : (s : List ℕ) {P : Type 0} → (IsLeaf (head_of s) → P) → ((w : Widths) → head_of s ≡ header.Object w → P)
    → ((w : Widths) → head_of s ≡ header.List w → P) → P
by_head s {P} f g h = go (head_of s) refl
  where
    go : (x : Header) → head_of s ≡ x → P
    go (header.Primitive t) e = f (rw e tt)
    go (header.ShortString n) e = f (rw e tt)
    go (header.Object w) e = g w e
    go (header.List w) e = h w e

-- MORE LEVELS LEFT do not make a good value bad

module _ (f g : List ℕ → Seen) (more : (t : List ℕ) → f t ≡ fine → g t ≡ fine) where
  layered_more : (o : Found) (w : Widths) (s : List ℕ) (high : ℕ → ℕ) → layered f o w s high ≡ fine → layered g o w s high ≡ fine
  layered_more o w s high e = let l = fine_layer f w s high o e in layer_fine g w s high l.0 (λ k p. more _ (l.1 k p))

pub more_levels : (d : List ℕ) (n m : ℕ) → n ≤ m → (s : List ℕ) → tree d n s ≡ fine → tree d m s ≡ fine
more_levels d zero m p s e =
    by_head s (λ l. tree_leaf d s m l ∙ sym (tree_leaf d s 0 l) ∙ e) (λ w h. wrong_fine (sym (object_deep d s h) ∙ e))
    (λ w h. wrong_fine (sym (list_deep d s h) ∙ e))
more_levels d (suc n) zero p s e = absurd (omega arith)
more_levels d (suc n) (suc m) p s e =
    by_head s (λ l. tree_leaf d s (suc m) l ∙ sym (tree_leaf d s (suc n) l) ∙ e)
    (λ w h. tree_object d s m h ∙ layered_more (tree d n) (tree d m) (more_levels d n m (omega arith)) _ w s _ (sym (tree_object d s n h) ∙ e))
    (λ w h. tree_list d s m h ∙ layered_more (tree d n) (tree d m) (more_levels d n m (omega arith)) _ w s _ (sym (tree_list d s n h) ∙ e))
