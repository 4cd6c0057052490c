-- `layout::read` meets its contract: each refusal is the first row that holds. The limit is opened here. Assumes nothing.
use Rattle.rules.proofs.Prelude.{arith, rules, first_at}
use Rattle.width.specs.Limits.{u32_max}
use Rattle.layout.proofs.read.Statement.{statement}
use Rattle.layout.proofs.read.Tie as tie

pub read_spec : {M : Type 1} → statement M
unfolding u32_max
read_spec =
    tie.close
    (tie.spec
    (λ c. search rules)  -- add-if1
    (λ c. λ a b l. first_at 0 _ (omega arith))  -- returns
    (λ c κs. search rules)  -- places-of-requires
    (λ c. λ a b l. first_at 1 _ (omega arith))  -- returns-2
    (λ c. λ a b l. first_at 2 _ (omega arith))  -- returns-3
    (λ c. λ a b l. first_at 3 _ (omega arith))  -- returns-4
    (λ c κs. search rules)  -- end-of-requires
    (λ c. λ a b l. first_at 4 _ (omega arith))  -- returns-5
    (λ c. λ a b l. first_at 5 _ (omega arith))  -- returns-6
    (λ c. search rules))  -- returns-7
