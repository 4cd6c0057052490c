-- `layer::offset_at` meets its contract: the header holds the offset. Assumes nothing.
use Rattle.rules.proofs.Prelude.{◌∙◌, ◌+◌, ◌*◌, ◌≤◌, arith, length}
use Rattle.layer.specs.Object.{offset}
use Rattle.layer.proofs.Laws.{offset_inside}
use Rattle.layer.proofs.offset_at.Statement.{statement}
use Rattle.layer.proofs.offset_at.Tie as tie

inside : (c : tie.After-shared_slice_known-1) → let a = c.args in a.l.offsets + a.l.offset_width * a.k + a.l.offset_width ≤ length a.object.now
inside c =
    let s = c in
    let a = s.args in
    let l = s.requires.0 in
    omega (arith, offset_inside a.object.now a.l.offset_width a.k l.offset_width_is s.requires.1)

pub offset_at_spec : {M : Type 1} → statement M
unfolding offset
offset_at_spec =
    tie.close
    (tie.spec
    (λ c. omega (arith, inside c))  -- mul-unpack-u32
    (λ c. omega (arith, inside c.before))  -- add-unpack-u32
    (λ c κs. omega (arith, inside c.before))  -- unpack-u32-requires
    (λ c. let l = c.requires.0 in
    (c.unpack_u32.ensures.is ∙ rw (l.offsets_is, l.offset_width_is), c.unpack_u32.ensures.fits)))  -- returns
