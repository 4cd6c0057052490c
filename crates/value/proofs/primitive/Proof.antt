-- `value::primitive` meets its contract: an arm a type. Assumes nothing.
use Rattle.rules.proofs.Prelude.{◌≡◌, ◌∙◌, ap, arith, rules}
use lib.IntN.{ℤ}
use mir.Syntax.{Width, w8, w16, w32, w64}
use mir.Val.{SFits, to_z, of_z}
use mir.Facts.{to_z-of_z}
use Rattle.lengths.specs.Lengths.{payload}
use Rattle.value.specs.declared.Value.TheVariants.{I8, I16, I32, I64}
use Rattle.value.specs.Reading.{single, double, primitive}
use Rattle.value.proofs.Laws.{from_eight, placed_is}
use Rattle.value.proofs.primitive.Statement.{statement}
use Rattle.value.proofs.primitive.Tie as tie

-- an integer's bits are those of the number that was read
back : (w : Width) {z q : ℤ} → SFits w z → z ≡ q → to_z w (of_z w z) ≡ q
back w {z} h e = to_z-of_z {w = w} {z = z} h ∙ e

pub primitive_spec : {M : Type 1} → statement M
unfolding payload primitive
primitive_spec =
    tie.close
    (tie.spec
    (λ c κs. omega (arith, rw c.in-3.is at c.requires))  -- read-i8-requires
    (λ c κs. omega (arith, rw c.in-4.is at c.requires))  -- read-i16-requires
    (λ c κs. omega (arith, rw c.in-5.is at c.requires))  -- read-i32-requires
    (λ c κs. omega (arith, rw c.in-6.is at c.requires))  -- read-i64-requires
    (λ c κs. omega (arith, rw c.in-7.is at c.requires))  -- unpack-u64-requires
    (λ c κs. search rules)  -- double-requires
    (λ c κs. (omega arith, omega arith, rw c.in-14.is at c.requires))  -- unpack-u32-requires
    (λ c. search rules)  -- cast-single
    (λ c κs. search rules)  -- single-requires
    (λ c κs. search rules)  -- payload-start-requires
    (λ c. rw c.in-0.is)  -- returns
    (λ c. rw c.in-1.is)  -- returns-2
    (λ c. rw c.in-2.is)  -- returns-3
    (λ c. rw c.in-3.is (ap I8 (back w8 (record { sfits = c.read_i8.type_inv }) c.read_i8.ensures)))  -- returns-4
    (λ c. rw c.in-4.is (ap I16 (back w16 (record { sfits = c.read_i16.type_inv }) c.read_i16.ensures)))  -- returns-5
    (λ c. rw c.in-5.is (ap I32 (back w32 (record { sfits = c.read_i32.type_inv }) c.read_i32.ensures)))  -- returns-6
    (λ c. rw c.in-6.is (ap I64 (back w64 (record { sfits = c.read_i64.type_inv }) c.read_i64.ensures)))  -- returns-7
    (λ c. rw c.in-7.is (c.double.ensures ∙ ap double c.unpack_u64.ensures))  -- returns-8
    (λ c. rw c.in-14.is (c.single.ensures ∙ ap single c.unpack_u32.ensures.is))  -- returns-9
    (λ c. let a = c.args in
    let r = c.in_default.in_default-own.rest in
    let least =
    from_eight a.t r.0.0.0.0.0.0.0.0.1 r.0.0.0.0.0.0.0.1 r.0.0.0.0.0.0.1 r.0.0.0.0.0.1
    r.0.0.0.0.1 r.0.0.0.1 r.0.0.1 r.0.1 in
    placed_is a.t a.s.now a.end least r.1 c.payload_start.ensures))  -- returns-10
