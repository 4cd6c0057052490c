-- `object_calls::layer` meets its contract: 40, or the words of the answer. Assumes nothing.
use Rattle.rules.proofs.Prelude.{ap, ◌∙◌, arith, rules}
use Rattle.strip.specs.Shapes.{words_of, layer_shape}
use Rattle.strip.proofs.Laws.{no_strip, on_strip}
use Rattle.object_calls.proofs.layer.Statement.{statement}
use Rattle.object_calls.proofs.layer.Tie as tie

pub layer_spec : {M : Type 1} → statement M
layer_spec =
    tie.close
    (tie.spec
    (λ c. no_strip _ _ (omega arith))  -- returns
    (λ c κs. search rules) (λ c κs. search rules) (λ c κs. search rules) (λ c. search rules)
    (λ c. let w = c in
    let six = w in
    on_strip _ _ (omega arith) (six.of_layer-words.ensures ∙ ap (words_of layer_shape) six.check.ensures) w.write.ensures))  -- returns-2
