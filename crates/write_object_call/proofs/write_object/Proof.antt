-- `write_object_call::write_object` meets its contract: 40, or the words of the answer and the room. Assumes nothing.
use Rattle.rules.proofs.Prelude.{ap, ◌∙◌, arith, rules}
use Rattle.strip.specs.Shapes.{words_of, layer_shape}
use Rattle.strip.proofs.Laws.{no_strip, on_strip, not_filled, is_filled}
use Rattle.write_object_call.proofs.write_object.Statement.{statement}
use Rattle.write_object_call.proofs.write_object.Tie as tie

pub write_object_spec : {M : Type 1} → statement M
write_object_spec =
    tie.close
    (tie.spec
    (λ c. record { strip_left = no_strip _ _ (omega arith); words_left = not_filled _ _ _ (omega arith) })  -- returns
    (λ c κs. search rules) (λ c κs. search rules) (λ c κs. search rules)
    (λ c. search rules) (λ c. search rules) (λ c. search rules) (λ c. search rules)
    (λ c. let call = c in
    let answers = call.write_object.ensures in
    record {
      strip_left = on_strip _ _ (omega arith) (c.of_built-words.ensures ∙ ap (words_of layer_shape) answers.answer) c.write.ensures;
      words_left = is_filled _ _ _ (omega arith) answers.leaves;
    }))  -- returns-2
