-- `tree_call::tree` meets its contract: 40, or the words of the answer and no marks. Assumes nothing.
use Rattle.rules.proofs.Prelude.{ap, ◌∙◌, arith}
use Rattle.strip.specs.Shapes.{words_of, tree_shape}
use Rattle.strip.proofs.Laws.{no_strip, on_strip, not_filled, is_filled}
use Rattle.tree_call.proofs.tree.Goals as goal

pub returns-then-strip-lt-STRIP : goal.returns-then-strip-lt-STRIP
returns-then-strip-lt-STRIP c = record { strip_left = no_strip _ _ (omega arith); words_left = not_filled _ _ _ (omega arith) }

pub returns : goal.returns
returns c =
    let answers = c.check_with.ensures in
    record {
      strip_left = on_strip _ _ (omega arith) (c.of_tree-words.ensures ∙ ap (words_of tree_shape) answers.answers) c.write.ensures;
      words_left = is_filled _ _ _ (omega arith) answers.leaves;
    }
