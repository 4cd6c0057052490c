-- `keys::byte_or_zero` meets its contract: past the end there is 0. Assumes nothing.
use native.Mathlib.Omega.{arith}
use borrow.Author.Rules.{rules}
use mathlib.Core.Path.{sym}
use lib.ListN.{get_or-eq_default}
use Rattle.keys.proofs.byte_or_zero.Statement.{statement}
use Rattle.keys.proofs.byte_or_zero.Tie as tie

pub byte_or_zero_spec : {M : Type 1} → statement M
byte_or_zero_spec =
    tie.close
    (tie.spec
    (λ c. search rules) (λ c κs. search rules) (λ c. search rules)
    (λ c. let s = c.args.s.now in (sym (get_or-eq_default s 0 (omega arith)), omega arith)))  -- returns-2
