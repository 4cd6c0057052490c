-- `keys::key` meets its contract: the first of eight bytes, or byte by byte at the end. Assumes nothing.
use Prim.Native.Nat.{◌-◌, ◌*◌}
use native.Mathlib.Omega.{arith}
use borrow.Author.Rules.{rules}
use Rattle.part.specs.Part.{part}
use Rattle.eights.proofs.Words.{be_eight}
use Rattle.keys.proofs.Keys.{small, key_of, part_octets, part_none, key_shifted}
use Rattle.keys.proofs.key.Statement.{statement}
use Rattle.keys.proofs.key.Tie as tie

pub key_spec : {M : Type 1} → statement M
key_spec =
    tie.close
    (tie.spec
    (λ c. search rules)
    (λ c. let a = c.args in
    let octets = small a.s.now c.shared_slice_known-1.given in
    key_of (part a.s.now a.from a.to) (part_octets a.s.now a.from a.to octets) (omega (arith, part_none a.s.now a.from a.to (omega arith))))  -- returns
    (λ c. search rules) (λ c. search rules) (λ c. search rules) (λ c. search rules)
    (λ c κs. search rules) (λ c. search rules) (λ c κs. search rules) (λ c. search rules)
    (λ c. let a = c.args in
    let name = part a.s.now a.from a.to in
    let octets = part_octets a.s.now a.from a.to (small a.s.now c.shared_slice_known-1.given) in
    key_of name octets (omega (arith, be_eight name 0)))  -- returns-2
    (λ c κs. search rules) (λ c. omega arith) (λ c. omega arith) (λ c κs. search rules) (λ c. omega arith) (λ c. omega arith)
    (λ c. let a = c.args in
    let octets = small a.s.now c.shared_slice_known-1.given in
    let is = key_shifted a.s.now a.from octets a.to (64 - 8 * c.min.result) (omega arith) (omega arith) c.word.ensures in
    key_of (part a.s.now a.from a.to) (part_octets a.s.now a.from a.to octets) (rw is)))  -- returns-3
