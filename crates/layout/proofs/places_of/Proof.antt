-- `layout::places_of` meets its contract: widths of at most four keep the sums within 64 bits. Assumes nothing.
use Rattle.rules.proofs.Prelude.{◌+◌, mul-le-mul_right, arith, rules}
use Rattle.layout.specs.Layout.{count, offsets_start, start}
use Rattle.layout.proofs.places_of.Statement.{statement}
use Rattle.layout.proofs.places_of.Tie as tie

pub places_of_spec : {M : Type 1} → statement M
unfolding count offsets_start start
places_of_spec =
    tie.close
    (tie.spec
    (λ c κs. search rules)  -- unpack-u32-requires
    (λ c. search rules)  -- add-offsets
    (λ c. omega (arith, mul-le-mul_right c.unpack_u32-n.result c.requires.0.id_few))  -- mul-offsets
    (λ c. omega (arith, mul-le-mul_right c.unpack_u32-n.result c.requires.0.id_few))  -- add-offsets-2
    (λ c. search rules)  -- add-t6
    (λ c. omega (arith, mul-le-mul_right (c.unpack_u32-n.result + 1) c.requires.0.offset_few))  -- mul-t7
    (λ c. let l = c.requires.0 in
    let n = c.unpack_u32-n.result in
    omega (arith, mul-le-mul_right n l.id_few, mul-le-mul_right (n + 1) l.offset_few))  -- add-t8
    (λ c. let e = c.unpack_u32-n.ensures.is in
    record { count_is = e; offsets_is = rw e; start_is = rw e }))  -- returns
