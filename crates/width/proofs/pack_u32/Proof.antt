-- `width::pack_u32` meets its contract: four bytes are set, one after another. Assumes nothing.
use mathlib.Core.Path.{◌≡◌}
use Prim.Native.Nat.{suc, ◌+◌}
use native.Mathlib.Omega.{arith}
use borrow.Author.Rules.{rules}
use lib.ListN.{length-set}
use Rattle.width.proofs.Laws.{bytes_four}
use Rattle.width.proofs.pack_u32.Statement.{statement}
use Rattle.width.proofs.pack_u32.Tie as tie

pub pack_u32_spec : {M : Type 1} → statement M
pack_u32_spec =
    tie.close
    (tie.spec
    (λ c. search rules) (λ c. search rules) (λ c. search rules) (λ c. search rules)
    (λ c. simp length-set (omega arith))  -- slice-write-out-2
    (λ c. search rules) (λ c. search rules)
    (λ c. simp length-set (omega arith))  -- slice-write-out-3
    (λ c. search rules) (λ c. search rules)
    (λ c. simp length-set (omega arith))  -- slice-write-out-4
    (λ c. search rules)  -- same-length
    (λ c. let at = c.args.at in
    let e1 : at + 1 ≡ suc at = omega arith in
    let e2 : at + 2 ≡ suc (suc at) = omega arith in
    let e3 : at + 3 ≡ suc (suc (suc at)) = omega arith in
    rw (bytes_four, e1, e2, e3)))  -- returns
