-- `path_call::path` meets its contract: 40, or the words of the answer and the steps in both buffers. Assumes nothing.
use Rattle.std.proofs.Common.{ap, ◌∙◌, arith}
use Rattle.strip.specs.Shapes.{words_of, lookup_shape}
use Rattle.strip.proofs.Laws.{no_strip, on_strip, not_filled, is_filled}
use Rattle.path_call.proofs.path.Goals as goal

pub returns-then-strip-lt-STRIP : goal.returns-then-strip-lt-STRIP
returns-then-strip-lt-STRIP c =
    record {
      strip_left = no_strip _ _ (omega arith);
      names_left = not_filled _ _ _ (omega arith);
      words_left = not_filled _ _ _ (omega arith);
    }

pub returns : goal.returns
returns c =
    let answers = c.get.ensures in
    record {
      strip_left = on_strip _ _ (omega arith) (c.of_asked-six.ensures ∙ ap (words_of lookup_shape) answers.says) c.write.ensures;
      names_left = is_filled _ _ _ (omega arith) answers.names_left;
      words_left = is_filled _ _ _ (omega arith) answers.words_left;
    }
