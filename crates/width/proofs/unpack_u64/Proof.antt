-- `width::unpack_u64` meets its contract: the high half stands above the low one. Assumes nothing.
use borrow.Author.Rules.{rules}
use Rattle.width.proofs.Laws.{unpack_above}
use Rattle.width.proofs.unpack_u64.Statement.{statement}
use Rattle.width.proofs.unpack_u64.Tie as tie

pub unpack_u64_spec : {M : Type 1} → statement M
unpack_u64_spec =
    tie.close
    (tie.spec
    (λ c κs. search rules)  -- unpack-u32-requires
    (λ c. search rules)  -- add-unpack-u32
    (λ c κs. search rules)  -- unpack-u32-requires-2
    (λ c. search rules)  -- mul-result
    (λ c. search rules)  -- add-result
    (λ c. let a = c.args in
    unpack_above 4 4 a.at a.s.now c.unpack_u32-low.ensures.is c.unpack_u32-high.ensures.is))  -- returns
