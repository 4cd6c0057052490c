-- `write_call::write_dictionary` meets its contract: 40, or the words of the answer and the room. Assumes nothing.
use Rattle.rules.proofs.Prelude.{ap, ◌∙◌, arith, rules}
use Rattle.strip.specs.Shapes.{words_of, dictionary_shape}
use Rattle.strip.proofs.Laws.{no_strip, on_strip, not_filled, is_filled}
use Rattle.write_call.proofs.write_dictionary.Statement.{statement}
use Rattle.write_call.proofs.write_dictionary.Tie as tie

pub write_dictionary_spec : {M : Type 1} → statement M
write_dictionary_spec =
    tie.close
    (tie.spec
    (λ c. record { strip_left = no_strip _ _ (omega arith); words_left = not_filled _ _ _ (omega arith) })  -- returns
    (λ c κs. search rules) (λ c κs. search rules) (λ c κs. search rules)
    (λ c. search rules) (λ c. search rules) (λ c. search rules) (λ c. search rules)
    (λ c. let call = c in
    let answers = call.write_dictionary.ensures in
    record {
      strip_left = on_strip _ _ (omega arith) (c.of_written-words.ensures ∙ ap (words_of dictionary_shape) answers.answer) c.write.ensures;
      words_left = is_filled _ _ _ (omega arith) answers.leaves;
    }))  -- returns-2
