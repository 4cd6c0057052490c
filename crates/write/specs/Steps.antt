-- What the last step answers, where all names are good. Assumes nothing.
use Rattle.std.specs.Prelude.{◌≡◌, List, [], ◌∷◌, ℕ, length, Result}
use Rattle.rules.specs.Rules.{accept, ◌otherwise◌}
use Rattle.fill.specs.Bytes.{size}
use Rattle.write.specs.declared.Written.{Written}
use Rattle.write.specs.declared.Refusal.{Refusal}
use Rattle.write.specs.Writing.{size_checks, filled_by}
use Rattle.write.specs.Answers.{written_numbers}

pub record Finished (names : List (List ℕ)) (room after : List ℕ) (r : Result Written Refusal) : Type 0 where
  pub answer : written_numbers r ≡ (size_checks names room otherwise accept (length names ∷ size names ∷ []))
  pub leaves : after ≡ filled_by (size_checks names room) names room
