-- `layout::offset_at` meets its contract: the header holds the offset. Assumes nothing.
use Rattle.rules.proofs.Prelude.{◌∙◌, ◌+◌, ◌*◌, ◌≤◌, arith, length}
use Rattle.layout.specs.Layout.{offset}
use Rattle.layout.proofs.Laws.{offset_inside}
use Rattle.layout.proofs.offset_at.Statement.{statement}
use Rattle.layout.proofs.offset_at.Tie as tie

inside : (c : tie.After-shared_slice_known-1) → let a = c.args in a.l.offsets + a.w.offset * a.k + a.w.offset ≤ length a.s.now
inside c =
    let s = c in
    let a = s.args in
    let l = s.requires.1 in
    omega (arith, offset_inside a.w a.s.now a.k s.requires.2, l.passes)

pub offset_at_spec : {M : Type 1} → statement M
unfolding offset
offset_at_spec =
    tie.close
    (tie.spec
    (λ c. omega (arith, inside c))  -- mul-unpack-u32
    (λ c. omega (arith, inside c.before))  -- add-unpack-u32
    (λ c κs. omega (arith, inside c.before, c.requires.0))  -- unpack-u32-requires
    (λ c. let l = c.requires.1 in
    (c.unpack_u32.ensures.is ∙ rw l.offsets_is, c.unpack_u32.ensures.fits)))  -- returns
