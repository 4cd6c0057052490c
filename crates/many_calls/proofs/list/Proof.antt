-- `many_calls::list` meets its contract: 40, or the words of the answer and of the listing. Assumes nothing.
use Rattle.rules.proofs.Prelude.{ap, ◌∙◌, arith, rules}
use Rattle.strip.specs.Shapes.{words_of, layer_shape}
use Rattle.strip.proofs.Laws.{no_strip, on_strip, not_filled, is_filled}
use Rattle.many_calls.proofs.list.Statement.{statement}
use Rattle.many_calls.proofs.list.Tie as tie

pub list_spec : {M : Type 1} → statement M
list_spec =
    tie.close
    (tie.spec
    (λ c. record { strip_left = no_strip _ _ (omega arith); words_left = not_filled _ _ _ (omega arith) })  -- returns
    (λ c κs. search rules) (λ c κs. search rules) (λ c κs. search rules) (λ c. search rules) (λ c. search rules)
    (λ c. let w = c in
    let six = w in
    let l = six in
    let answers = l.list.ensures in
    record {
      strip_left = on_strip _ _ (omega arith) (six.of_listing-six.ensures ∙ ap (words_of layer_shape) answers.answers) w.write.ensures;
      words_left = is_filled _ _ _ (omega arith) answers.leaves;
    }))  -- returns-2
