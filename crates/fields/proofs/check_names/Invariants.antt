-- The loop keeps that all fields before k pass, and where the name of the last of them stands. Assumes nothing.
use Rattle.rules.proofs.Prelude.{◌≡◌, ◌-◌, ◌<◌, first, each, pass}
use Rattle.part.specs.Part.{part}
use Rattle.layer.specs.Object.{field_name, name_rules}
use Rattle.fields.specs.Steps.{Within}
use Rattle.fields.proofs.check_names.Given as goal

abbrev pub invariant-loop-k : goal.invariant-loop-k
invariant-loop-k l =
    Within l.dict l.before
    × (0 < l.k → part l.dict l.before.start l.before.end ≡ field_name l.dict l.object (l.k - 1))
    × (first (each (name_rules l.dict l.object) l.k) ≡ pass)
