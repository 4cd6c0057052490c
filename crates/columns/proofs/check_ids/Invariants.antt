-- The loop keeps that all fields before k pass, and the id of the last of them. Assumes nothing.
use Rattle.rules.proofs.Prelude.{◌≡◌, ◌-◌, ◌<◌, first, each, pass}
use Rattle.layer.specs.Object.{id, id_rules}
use Rattle.columns.proofs.check_ids.Given as goal

abbrev pub invariant-loop-k : goal.invariant-loop-k
invariant-loop-k l = (0 < l.k → l.before ≡ id l.object (l.k - 1)) × (first (each (id_rules l.entries l.object) l.k) ≡ pass)
