-- `dictionary_calls::name` meets its contract: 40, or the words of the answer. Assumes nothing.
use Rattle.rules.proofs.Prelude.{ap, ◌∙◌, arith}
use Rattle.strip.specs.Shapes.{words_of, name_shape}
use Rattle.strip.proofs.Laws.{no_strip, on_strip}
use Rattle.dictionary_calls.proofs.name.Goals as goal

pub returns-then-strip-lt-STRIP : goal.returns-then-strip-lt-STRIP
returns-then-strip-lt-STRIP c = no_strip _ _ (omega arith)

pub returns : goal.returns
returns c = on_strip _ _ (omega arith) (c.of_entry-words.ensures ∙ ap (words_of name_shape) c.get.ensures) c.write.ensures
