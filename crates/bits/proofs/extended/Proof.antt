-- `bits::extended` meets its contract: by the sign. Assumes nothing.
use Rattle.rules.proofs.Prelude.{arith}
use mir.Syntax.{w64}
use mir.Facts.{to_z-of_z, to_z_pos}
use Rattle.bits.proofs.Laws.{below, bits_below, above, bits_above}
use Rattle.bits.proofs.extended.Statement.{statement}
use Rattle.bits.proofs.extended.Tie as tie

pub extended_spec : {M : Type 1} → statement M
extended_spec =
    tie.close
    (tie.spec
    (λ c. let b = below _ c.ranges.z c.if-z-lt0.true in rw b.turns (record { sfits = b.small }))  -- sub-result
    (λ c. let b = below _ c.ranges.z c.if-z-lt0.true in rw (b.turns, to_z_pos w64 b.small) (tt, record { fits = omega (arith, b.small) }))  -- cast-result
    (λ c. let b = below _ c.ranges.z c.if-z-lt0.true in rw (b.turns, to_z_pos w64 b.small) (omega (arith, b.small)))  -- sub-result-2
    (λ c. let b = below _ c.ranges.z c.if-z-lt0.true in rw (b.turns, to_z_pos w64 b.small) (bits_below _ b))  -- returns
    (λ c. let a = above _ c.ranges.z c.if-z-lt0.false in rw (a.is, to_z_pos w64 a.small) (tt, record { fits = omega (arith, a.small) }))  -- cast-result-2
    (λ c. let a = above _ c.ranges.z c.if-z-lt0.false in rw (to_z-of_z {w = w64} c.ranges.z) (bits_above _ a)))  -- returns-2
