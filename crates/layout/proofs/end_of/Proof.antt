-- `layout::end_of` meets its contract: the last offset, after the start. Assumes nothing.
use Rattle.rules.proofs.Prelude.{arith, rules}
use Rattle.layout.proofs.Laws.{offsets_before, last_is, end_is}
use Rattle.layout.proofs.end_of.Statement.{statement}
use Rattle.layout.proofs.end_of.Tie as tie

pub end_of_spec : {M : Type 1} → statement M
end_of_spec =
    tie.close
    (tie.spec
    (λ c. let a = c.args in omega (arith, offsets_before a.w a.s.now))  -- sub-unpack-u32
    (λ c κs. let a = c.args in omega (arith, offsets_before a.w a.s.now))  -- unpack-u32-requires
    (λ c. search rules)  -- add-result
    (λ c. let a = c.args in
    let last = last_is a.w a.s.now a.start c.requires.1 c.unpack_u32.ensures.is in
    omega (arith, last, end_is a.w a.s.now)))  -- returns
