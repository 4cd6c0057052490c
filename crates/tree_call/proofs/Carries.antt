-- A tree's refusal has a number, a place and a start that fit 32 bits, and the start is within the value, so that a strip carries the answer
-- whole. Assumes nothing.
use Rattle.rules.proofs.Prelude.{◌≡◌, refl, ap, List, ℕ, ◌+◌, ◌≤◌, ◌<◌, arith, length, get_or, length-drop, length-take}
use Rattle.width.specs.Limits.{u32_max}
use Rattle.part.specs.Part.{part}
use Rattle.dictionary.specs.Limits.{limit}
use Rattle.metadata.proofs.Fits as dictionary-fits
use Rattle.metadata.proofs.Refuses as dictionary-refuses
use Rattle.layout.specs.declared.Widths.{Widths}
use Rattle.layout.specs.Layout.{count, child_start, start, end}
use Rattle.layout.proofs.Laws.{end_is, count_below}
use Rattle.encoding.specs.declared.Header.TheVariants as header
use Rattle.encoding.specs.Encoding.{list_widths}
use Rattle.lengths.specs.Lengths.{own_length, bytes_of}
use Rattle.encoding.proofs.Laws.{list_says}
use Rattle.lengths.proofs.Means.{known}
use Rattle.layer.specs.Meaning as object
use Rattle.layer.proofs.Laws as object-laws
use Rattle.object.proofs.Refuses.{is_due}
use Rattle.object.proofs.Fits.{checks_code}
use Rattle.list.specs.Meaning as list
use Rattle.list.proofs.Fits.{refusal_fits}
use Rattle.leaf.specs.Meaning as leaf
use Rattle.leaf.specs.Meaning.Refusal.{header_cut, past_range, past_bytes, no_such_type, not_text}
use Rattle.nodes.specs.Tree.{Seen, field_end, element_end, checks_at, verdict, verdict_at}
use Rattle.nodes.specs.Tree.Seen.{fine, wrong}
use Rattle.nodes.specs.Meaning.{head_of, Due, Refusal}
use Rattle.nodes.specs.Meaning.Due.{of_leaf, deep_object, deep_list, of_object, of_list, in_field, in_element}
use Rattle.nodes.specs.Meaning.Refusal.{of_dictionary, too_long, of_value}
use Rattle.nodes.proofs.Inside.{count_is, start_is, offset_is}
use Rattle.tree.proofs.Accepts.{accepts}
use Rattle.tree.proofs.Refuses.{refuses}
use Rattle.strip.specs.Shapes.{tree_shape, strip_bytes}
use Rattle.strip.specs.Reading.{words_in}
use Rattle.strip.proofs.Carries.{Fits, carried}
use Rattle.tree_call.specs.Promises.{tree_words, TreePromise}

-- a number that is a tree's refusal alone, a place of 32 bits, and a start within n bytes
pub record Small (n code place start : ℕ) : Type 0 where
  pub least : 10 ≤ code
  pub most : code < 63
  pub no_strip : code ≡ 40 → ⊥
  pub place_fits : place < 4294967296
  pub inside : start ≤ n

-- a part that starts inside ends inside
part_inside : (s : List ℕ) (a e : ℕ) → a ≤ length s → a + length (part s a e) ≤ length s
part_inside s a e p = simp (length-take, length-drop) (omega arith)

-- there are fewer elements than bytes of a list's header
list_few : (s : List ℕ) (w : Widths) → head_of s ≡ header.List w → count w s < start w s
unfolding list_widths
list_few s w e = let offsets = ap (λ (x : Widths). x.offset) (list_says (get_or s 0 0) w e).1 in count_below w s (omega arith)

module _ (d : List ℕ) where
  leaf_small : (n : ℕ) {s : List ℕ} {c p : ℕ} → leaf.Refusal s c p → Small n c p 0
  leaf_small n (header_cut e) = omega arith
  leaf_small n (past_range e) = omega arith
  leaf_small n (past_bytes e) = omega arith
  leaf_small n (no_such_type e) = omega arith
  leaf_small n (not_text e i m) = omega arith

  list_small : (n : ℕ) {s : List ℕ} {w : Widths} {c p : ℕ} → count w s < start w s → list.Refusal w s c p → Small n c p 0
  list_small n few r = let b = refusal_fits few r in omega arith

  object_small : (n : ℕ) {s : List ℕ} {c p : ℕ} → object.Refusal d s c p → Small n c p 0
  object_small n {s} r = let b = checks_code d s (is_due d s r) in omega arith

  -- where a field's child starts, and an element
  field_inside : {s : List ℕ} {w : Widths} (k : ℕ) → head_of s ≡ header.Object w → object.Layer d s (count w s) (start w s) (end w s) → k < count w s
      → child_start w s k ≤ length s
  field_inside {s} {w} k e g p =
      let region = g.offsets k (omega (arith, count_is s e)) in
      omega (arith, start_is s e, offset_is s e k, object-laws.end_is s, g.named.headed.end_inside)

  element_inside : {s : List ℕ} {w : Widths} (k : ℕ) → list.ListLayer w s → k < count w s → child_start w s k ≤ length s
  element_inside {s} {w} k g p = omega (arith, (g.elements k p).inside, end_is w s, g.headed.end_inside)

  due_small : {n : ℕ} {s : List ℕ} {c p a : ℕ} → Due d n s c p a → Small (length s) c p a
  due_small {s = s} (of_leaf i r) = leaf_small (length s) r
  due_small (deep_object e) = omega arith
  due_small (deep_list e) = omega arith
  due_small {s = s} (of_object e r) = object_small (length s) r
  due_small {s = s} (of_list {w = w} e r) = list_small (length s) (list_few s w e) r
  due_small {s = s} (in_field {k = k} {w = w} e g p before r) =
      let b = due_small r in
      let inside = part_inside s (child_start w s k) (field_end w s k) (field_inside k e g p) in omega (arith, b)
  due_small {s = s} (in_element {k = k} {w = w} e g p before r) =
      let b = due_small r in
      let inside = part_inside s (child_start w s k) (element_end w s k) (element_inside k g p) in omega (arith, b)

  pub refusal_small : (v : List ℕ) {c p a : ℕ} → Refusal d v c p a → Small (length v) c p a × (a < 4294967296)
  unfolding limit
  refusal_small v (of_dictionary r) = let b = dictionary-fits.checks_code d (dictionary-refuses.is_due d r) in (omega arith, omega arith)
  refusal_small v (too_long g l) = (omega arith, omega arith)
  refusal_small v (of_value g l r) = let b = due_small r in (b, omega (arith, b))

module _ (d v : List ℕ) where
  pub tree_fits : Fits (tree_words d v)
  unfolding verdict_at u32_max
  tree_fits = go (checks_at 0 d v) refl
    where
      go : (x : Seen) → checks_at 0 d v ≡ x → Fits (tree_words d v)
      go fine e =
          let g = (accepts d v (bytes_of (own_length v))).0 (rw e) in
          rw e (omega (arith, (known v _ g.1).1.fits))
      go (wrong c p a) e = let b = refusal_small d v ((refuses d v c p a).0 (rw e)) in rw e (omega (arith, b.0, b.1))

  pub tree_carried : {marks strip : List ℕ} {code : ℕ} {after marks_after : List ℕ} → TreePromise d v marks strip code after marks_after → strip_bytes ≤ length strip
      → words_in after ≡ tree_words d v
  tree_carried promised enough = carried tree_shape (verdict d v) promised.strip_left enough tree_fits
