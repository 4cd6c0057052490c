-- An object or a list whose own checks passed is opened: its numbers are the layout's, its children lie within it, and they are what is left to
-- check. Assumes nothing.
use Rattle.rules.proofs.Prelude.{◌≡◌, sym, ◌∙◌, true, false, List, ℕ, ◌+◌, ◌≤◌, arith, length, pass, stop, false_true, add-one}
use Rattle.part.specs.Part.{part}
use Rattle.layout.specs.declared.Widths.{Widths}
use Rattle.layout.specs.declared.Numbers.{Numbers}
use Rattle.layout.specs.Layout as layout
use Rattle.layout.specs.Steps.{Few, NumbersOf}
use Rattle.encoding.specs.declared.Header.TheVariants as header
use Rattle.layer.specs.declared.Layer.{Layer}
use Rattle.layer.specs.Object as object
use Rattle.layer.specs.Steps.{LayerOf}
use Rattle.layer.proofs.Alike as alike
use Rattle.list.specs.List as list
use Rattle.list.specs.Steps as list_steps
use Rattle.nodes.specs.Tree.{from, field_end, element_end, tree}
use Rattle.nodes.specs.Tree.Seen.{wrong}
use Rattle.nodes.specs.Meaning.{head_of}
use Rattle.nodes.specs.Steps.{Opened}
use Rattle.nodes.proofs.Laws.{at_start, own_stops, own_passes, tree_object, tree_list}
use Rattle.nodes.proofs.Inside.{widths_are, count_is, start_is, end_of, laid, field_rises, element_rises, element_inside}

module _ (w : List ℕ) (a e : ℕ) (rises : a ≤ e) (inside : e ≤ length w) (x : Widths) (few : Few x) where
  -- AN OBJECT
  module _ (is : head_of (part w a e) ≡ header.Object x) where
    abbrev numbers_of : Layer → Numbers
    numbers_of l = record { count = l.count; offsets = l.offsets; start = l.start; end = l.end }

    numbers_are : (l : Layer) → LayerOf (part w a e) l → NumbersOf (part w a e) x (numbers_of l)
    numbers_are l o =
        let s = part w a e in
        let offsets_are : layout.offsets_start x s ≡ object.offsets_start s = rw (widths_are s is) (alike.offsets_are s) in
        record {
          passes = laid s is o.passes;
          count_is = o.count_is ∙ sym (count_is s is);
          offsets_is = o.offsets_is ∙ sym offsets_are;
          start_is = o.start_is ∙ sym (start_is s is);
          end_is = o.end_is ∙ sym (end_of s is);
          rises = o.rises;
        }

    pub object_opens : (d : List ℕ) (l : Layer) → LayerOf (part w a e) l → object.checks d (part w a e) ≡ pass
        → Opened d w a e (record { widths = x; numbers = numbers_of l; is_list = false })
    object_opens d l o passes =
        record {
          stands = record {
            rises = rises;
            inside = inside;
            few = few;
            numbers = numbers_are l o;
            listed = λ z. false_true z;
            child_rises = field_rises (part w a e) is d passes;
            child_inside = λ k p. omega arith;
          };
          only_children = λ m. tree_object d (part w a e) m is ∙ own_passes (tree d m) x (part w a e) (field_end x (part w a e)) passes;
        }

    pub object_refused : (d : List ℕ) {c p : ℕ} → object.checks d (part w a e) ≡ stop c p → (m : ℕ) → from a (tree d (m + 1) (part w a e)) ≡ wrong c p a
    object_refused d q m =
        rw (add-one m) (at_start a (tree_object d (part w a e) m is ∙ own_stops (tree d m) x (part w a e) (field_end x (part w a e)) q))

  -- A LIST
  module _ (is : head_of (part w a e) ≡ header.List x) where
    pub list_opens : (d : List ℕ) (l : Numbers) → list_steps.Opened x (part w a e) l → Opened d w a e (record { widths = x; numbers = l; is_list = true })
    list_opens d l o =
        record {
          stands = record {
            rises = rises;
            inside = inside;
            few = few;
            numbers = o.numbers;
            listed = λ z. o.passes;
            child_rises = element_rises (part w a e) x o.passes;
            child_inside = element_inside (part w a e) x o.passes;
          };
          only_children = λ m. tree_list d (part w a e) m is ∙ own_passes (tree d m) x (part w a e) (element_end x (part w a e)) o.passes;
        }

    pub list_refused : (d : List ℕ) {c p : ℕ} → list.checks x (part w a e) ≡ stop c p → (m : ℕ) → from a (tree d (m + 1) (part w a e)) ≡ wrong c p a
    list_refused d q m =
        rw (add-one m) (at_start a (tree_list d (part w a e) m is ∙ own_stops (tree d m) x (part w a e) (element_end x (part w a e)) q))
