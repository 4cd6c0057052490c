-- `value_call::value` meets its contract: 40, or the words of the answer. Assumes nothing.
use Rattle.rules.proofs.Prelude.{ap, ◌∙◌, arith, rules}
use Rattle.value.specs.Answers.{value_numbers}
use Rattle.value.proofs.Bits.{numeral}
use Rattle.strip.specs.Shapes.{words_of, value_shape}
use Rattle.strip.proofs.Laws.{no_strip, on_strip}
use Rattle.value_call.proofs.value.Statement.{statement}
use Rattle.value_call.proofs.value.Tie as tie

pub value_spec : {M : Type 1} → statement M
value_spec =
    tie.close
    (tie.spec
    (λ c. no_strip _ _ (omega arith))  -- returns
    (λ c κs. search rules)  -- read-requires
    (λ c κs. rw c.read.ensures (numeral _))  -- of-value-requires
    (λ c κs. search rules) (λ c. search rules)
    (λ c. let w = c in
    let six = w in
    on_strip _ _ (omega arith) (six.of_value-words.ensures ∙ ap (λ v. words_of value_shape (value_numbers v)) six.read.ensures) w.write.ensures))  -- returns-2
