-- `lookup::child_place` meets its contract: what was found gives its place. Assumes nothing.
use Rattle.rules.proofs.Prelude.{sym}
use Rattle.lookup.proofs.Finds.{found, found_inside}
use Rattle.lookup.proofs.child_place.Goals as goal

pub returns-in-Ok-Some : goal.returns-in-Ok-Some
returns-in-Ok-Some c =
    let a = c.args in
    let child = c.in-Ok-Some in
    let is = rw child.is at child.field-0-is in
    let e = sym (rw is at (rw child.is at c.get-found.ensures)) in
    let inside = found_inside _ _ _ _ _ _ _ ((found a.dict.now a.object.now a.name.now _ _ _ _).0 e) in
    record { start_is = rw e; end_is = rw e; rises = inside.0; inside = inside.1 }
