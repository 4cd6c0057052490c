-- `nodes::recalled` meets its contract: a mark is of a value that is good, and its own length fits the end at hand. Assumes nothing.
use Rattle.rules.proofs.Prelude.{sym, ap, ◌∙◌, arith}
use Rattle.part.specs.Part.{part}
use Rattle.lengths.specs.Lengths.{is_known}
use Rattle.lengths.proofs.Means.{is_known_law}
use Rattle.nodes.proofs.Marks.{marked_use}
use Rattle.nodes.proofs.recalled.Goals as goal

pub returns-then-is_known : goal.returns-then-is_known
returns-then-is_known c =
    let x = c.args in
    let fits = ap is_known (sym c.own_length.ensures) ∙ sym c.is_known.ensures ∙ c.if-is_known.true in (
      omega arith,
      λ d over limited known.
          marked_use d x.whole.now over limited x.marks.now known x.at.start x.at.end _ _ c.requires.0 c.requires.1
          c.at-mark.ensures.0 (omega arith) (is_known_law (part x.whole.now x.at.start x.at.end) fits),
    )
