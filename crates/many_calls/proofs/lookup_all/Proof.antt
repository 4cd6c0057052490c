-- `many_calls::lookup_all` meets its contract: 40, or the words of the answer and the rows of all names. Assumes nothing.
use Rattle.rules.proofs.Prelude.{ap, ◌∙◌, arith, rules}
use Rattle.strip.specs.Shapes.{words_of, layer_shape}
use Rattle.strip.proofs.Laws.{no_strip, on_strip, not_filled, is_filled}
use Rattle.many_calls.proofs.lookup_all.Statement.{statement}
use Rattle.many_calls.proofs.lookup_all.Tie as tie

pub lookup_all_spec : {M : Type 1} → statement M
lookup_all_spec =
    tie.close
    (tie.spec
    (λ c. record { strip_left = no_strip _ _ (omega arith); words_left = not_filled _ _ _ (omega arith) })  -- returns
    (λ c κs. search rules) (λ c κs. search rules) (λ c κs. search rules) (λ c. search rules) (λ c. search rules)
    (λ c. let answers = c.get_all.ensures in
    record {
      strip_left = on_strip _ _ (omega arith) (c.of_lookups-six.ensures ∙ ap (words_of layer_shape) answers.answers) c.write.ensures;
      words_left = is_filled _ _ _ (omega arith) answers.leaves;
    }))  -- returns-2
