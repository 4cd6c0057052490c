-- `nodes::open_list` meets its contract: the list layer's checks are its own. Assumes nothing.
use Rattle.rules.proofs.Prelude.{refl}
use Rattle.nodes.proofs.Opens.{list_opens, list_refused}
use Rattle.nodes.proofs.open_list.Goals as goal

pub returns-in-Err : goal.returns-in-Err
returns-in-Err c d =
    let x = c.args in
    let p = c.requires in
    (refl, list_refused x.whole.now x.at.start x.at.end p.0 p.1 x.w p.3 p.2 d c.in-Err.ensures)

pub returns-in-Ok : goal.returns-in-Ok
returns-in-Ok c d =
    let x = c.args in
    let p = c.requires in
    list_opens x.whole.now x.at.start x.at.end p.0 p.1 x.w p.3 p.2 d _ c.in-Ok.ensures
