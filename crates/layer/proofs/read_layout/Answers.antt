-- `layer::read_layout` meets its contract: the layout's table is the object's after 22, and its numbers are the object's. Assumes nothing.
use Rattle.rules.proofs.Prelude.{◌≡◌, ◌∙◌, List, ℕ, ◌+◌, arith, first, stop}
use Rattle.std.specs.Prelude.{Err}
use Rattle.layout.specs.declared.Flaw.{Flaw}
use Rattle.layout.specs.declared.Flaw.TheVariants as flaw
use Rattle.layout.specs.declared.Widths.{Widths}
use Rattle.layout.specs.declared.Numbers.{Numbers}
use Rattle.layout.specs.Layout.{rules}
use Rattle.layout.specs.Steps.{NumbersOf, HeadOf}
use Rattle.layout.proofs.Results.{raised}
use Rattle.layer.specs.Object.{head_rules}
use Rattle.layer.specs.Answers.{of_layout}
use Rattle.layer.specs.Steps.{stop_of, LeadOf, LayerOf}
use Rattle.layer.proofs.Alike as alike
use Rattle.layer.proofs.read_layout.Goals as goal

module _ (o : List ℕ) (w : Widths) (lead : LeadOf o w) where
  stopped : {c : ℕ} → first (rules 23 24 23 w o) ≡ stop c 0 → first (head_rules o) ≡ stop c 0
  stopped e = alike.then_laid o lead.not_long lead.not_empty lead.is_object ∙ (rw lead.widths_are at e)

  flawed : (f : Flaw) → HeadOf o w (Err f) → first (head_rules o) ≡ stop_of (of_layout f)
  flawed flaw.Cut h = stopped (h 23 24 23)
  flawed flaw.Sum h = stopped (h 23 24 23)
  flawed flaw.Longer h = stopped (h 23 24 23)

  layer : (n : Numbers) → NumbersOf o w n
      → LayerOf o (record { id_width = w.id; offset_width = w.offset; count = n.count; ids = 1 + w.count; offsets = n.offsets; start = n.start; end = n.end })
  layer n is =
      let e = lead.widths_are in
      let few = lead.few in
      let a = rw e at is.passes in
      record {
        passes = omega (arith, a, lead, alike.ids_are o, alike.offsets_are o, alike.start_is o, alike.end_is o);
        id_width_is = rw e (alike.id_width_is o);
        id_some = rw e (alike.id_some o);
        id_few = few.id_few;
        offset_width_is = rw e (alike.offset_width_is o);
        offset_some = few.offset_some;
        offset_few = few.offset_few;
        count_is = is.count_is ∙ rw e (alike.count_is o);
        ids_is = rw e (alike.ids_are o);
        offsets_is = is.offsets_is ∙ rw e (alike.offsets_are o);
        start_is = is.start_is ∙ rw e (alike.start_is o);
        end_is = is.end_is ∙ rw e (alike.end_is o);
        rises = is.rises;
      }

pub returns-in_err-n : goal.returns-in_err-n
returns-in_err-n c = rw (raised _ c.from_residual.ensures.1) (flawed _ _ c.requires _ c.in_err-n.ensures)

pub returns : goal.returns
returns c = layer _ _ c.requires _ c.in_ok-n.ensures
