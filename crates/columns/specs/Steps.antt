-- What the steps of the checks by numbers answer each other. Assumes nothing.
use Rattle.std.specs.Prelude.{[], ◌∷◌, ℕ, List, Result, Ok, Err, ⊤}
use Rattle.rules.specs.Rules.{Found, Rule}
use Rattle.rules.specs.Rules.Found.{pass}
use Rattle.rules.specs.Rules.Rule.{◌⇒◌at◌}
use Rattle.rules.specs.Rules.Test.{◌<?◌, ◌≤?◌, ◌and◌}
use Rattle.layer.specs.declared.Refusal.{Refusal}
use Rattle.layer.specs.Steps.{stop_of}

abbrev pub found_of : Result ⊤ Refusal → Found
found_of (Err r) = stop_of r
found_of (Ok _) = pass

-- the rules of the id of field k, over n entries and after the id `before`
abbrev pub id_row : ℕ → ℕ → ℕ → ℕ → List Rule
id_row n k before id =
    (n ≤? id ⇒ 25 at k)
    ∷ (0 <? k and id ≤? before ⇒ 26 at k)
    ∷ []
