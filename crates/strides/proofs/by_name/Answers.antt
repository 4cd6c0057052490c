-- `strides::by_name` meets its contract: the lookup's answer, as that of a step. Assumes nothing.
use Rattle.std.proofs.Common.{◌≡◌, refl, ap, ◌∙◌, ℕ}
use Rattle.std.specs.Prelude.{Option, Some, None, Ok}
use Rattle.lookup.specs.declared.Found.{Found}
use Rattle.lookup.specs.Answers.{lookup_numbers}
use Rattle.strides.specs.Stride.{as_step, stride}
use Rattle.strides.specs.Answers.{stride_numbers}
use Rattle.strides.proofs.by_name.Goals as goal

-- what is no refusal is no step's own
as_found : (number : ℕ) (found : Option Found) → stride_numbers (Ok found) ≡ as_step number (lookup_numbers (Ok found))
as_found number None = refl
as_found number (Some f) = refl

pub returns-in-Ok : goal.returns-in-Ok
unfolding stride
returns-in-Ok c = as_found c.args.number c.in-Ok.found ∙ ap (as_step c.args.number) c.in-Ok.ensures

pub returns-in-Err : goal.returns-in-Err
unfolding stride
returns-in-Err c = c.of_object.ensures ∙ ap (as_step c.args.number) c.in-Err.ensures
