-- `lookup::get_over` meets its contract: the layer's refusal, or what the search found. Assumes nothing.
use Rattle.rules.proofs.Prelude.{◌≡◌, sym, ap, ◌∙◌, ◌<◌, List, ℕ, arith, refused, answered}
use Rattle.names.specs.Search.{seek}
use Rattle.names.specs.Search.Sought.{here}
use Rattle.names.proofs.Search.{seek_at}
use Rattle.layout.proofs.Results.{raised}
use Rattle.layer.specs.Object.{count, field_name}
use Rattle.layer.proofs.Laws.{in_region, end_is}
use Rattle.lookup.specs.ByName.{found, lookup_within}
use Rattle.lookup.proofs.get_over.Goals as goal

-- what was found is a field
field : (d o q : List ℕ) (k : ℕ) → here k ≡ seek (field_name d o) q (count o) → k < count o
field d o q k e = (seek_at (field_name d o) q _ _ (sym e)).0

pub returns-in_err-l : goal.returns-in_err-l
unfolding lookup_within
returns-in_err-l c = rw (raised _ c.from_residual.ensures.1) (sym (refused _ c.in_err-l.ensures))

pub id_at-id-requires : goal.id_at-id-requires
id_at-id-requires c = let a = c.args in (c.in_ok-l.ensures.0, field a.dict.now a.object.now a.name.now _ c.in-Some.ensures)

pub field_place-place-requires : goal.field_place-place-requires
field_place-place-requires c =
    let a = c.args in
    let l = c.in_ok-l.ensures in
    let k = field a.dict.now a.object.now a.name.now _ c.in-Some.ensures in
    (l.0, k, omega (arith, in_region a.dict.now a.object.now l.1 _ k, end_is a.object.now))

pub returns-in-None : goal.returns-in-None
unfolding lookup_within
returns-in-None c = sym (answered _ c.in_ok-l.ensures.1 ∙ ap (found c.args.object.now) (sym c.in-None.ensures))

pub returns-in-Some : goal.returns-in-Some
unfolding lookup_within
returns-in-Some c =
    let place = c.field_place-place.ensures in
    rw (← place.0, ← place.1, ← c.id_at-id.ensures.0)
    at (sym (answered _ c.in_ok-l.ensures.1 ∙ ap (found c.args.object.now) (sym c.in-Some.ensures)))
