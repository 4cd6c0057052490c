-- What a step answers, where all checks before its own passed. Assumes nothing.
use Rattle.std.specs.Prelude.{◌≡◌, List, [], ◌∷◌, ◌++◌, ℕ, drop, Result}
use Rattle.rules.specs.Rules.{Found, accept, ◌otherwise◌, unless_refused}
use Rattle.source.specs.Pairs.{pairs}
use Rattle.builder.specs.Bytes.{object, start, size}
use Rattle.write_object.specs.declared.Built.{Built}
use Rattle.write_object.specs.declared.Refusal.{Refusal}
use Rattle.write_object.specs.declared.Refusal.TheVariants as refusal
use Rattle.pairs.specs.declared.ChildRefusal.{ChildRefusal}
use Rattle.pairs.specs.declared.ChildRefusal.TheVariants as child
use Rattle.write_object.specs.Answers.{built_numbers}

-- a child's refusal as the object's
abbrev pub of_child : ChildRefusal → Refusal
of_child (child.Outside k) = refusal.Outside k
of_child (child.Empty k) = refusal.EmptyChild k

-- by the checks that are left
pub record Left (found : Found) (d bytes words room after : List ℕ) (r : Result Built Refusal) : Type 0 where
  pub answer : built_numbers r ≡ (found otherwise accept (pairs words ∷ start d bytes words ∷ size d bytes words ∷ []))
  pub leaves : after ≡ unless_refused found (object d bytes words ++ drop (size d bytes words) room) room
