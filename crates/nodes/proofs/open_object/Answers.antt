-- `nodes::open_object` meets its contract: the layer's checks are the object's own. Assumes nothing.
use Rattle.rules.proofs.Prelude.{refl}
use Rattle.nodes.proofs.Opens.{object_opens, object_refused}
use Rattle.nodes.proofs.open_object.Goals as goal

pub returns-in-Err : goal.returns-in-Err
returns-in-Err c =
    let x = c.args in
    let p = c.requires in
    (refl, object_refused x.over.now.value.now x.at.start x.at.end p.0.rises p.0.inside x.w p.2 p.1 x.over.now.dict.now c.in-Err.ensures)

pub returns-in-Ok : goal.returns-in-Ok
returns-in-Ok c =
    let x = c.args in
    let p = c.requires in
    let good = c.in-Ok.ensures in
    object_opens x.over.now.value.now x.at.start x.at.end p.0.rises p.0.inside x.w p.2 p.1 x.over.now.dict.now _ good.0 good.1
