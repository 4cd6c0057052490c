-- `layer::id_at` meets its contract: the header holds the id. Assumes nothing.
use Rattle.rules.proofs.Prelude.{◌∙◌, ◌+◌, ◌*◌, ◌≤◌, arith, length}
use Rattle.layer.specs.Object.{id}
use Rattle.layer.proofs.Laws.{id_inside, offsets_before}
use Rattle.layer.proofs.id_at.Statement.{statement}
use Rattle.layer.proofs.id_at.Tie as tie

inside : (c : tie.After-shared_slice_known-1) → let a = c.args in a.l.ids + a.l.id_width * a.k + a.l.id_width ≤ length a.object.now
inside c =
    let s = c in
    let a = s.args in
    let l = s.requires.0 in
    omega (arith, id_inside a.object.now a.l.id_width a.k l.id_width_is s.requires.1, offsets_before a.object.now)

pub id_at_spec : {M : Type 1} → statement M
unfolding id
id_at_spec =
    tie.close
    (tie.spec
    (λ c. omega (arith, inside c))  -- mul-unpack-u32
    (λ c. omega (arith, inside c.before))  -- add-unpack-u32
    (λ c κs. omega (arith, inside c.before))  -- unpack-u32-requires
    (λ c. let l = c.requires.0 in
    (c.unpack_u32.ensures.is ∙ rw (l.ids_is, l.id_width_is), c.unpack_u32.ensures.fits)))  -- returns
