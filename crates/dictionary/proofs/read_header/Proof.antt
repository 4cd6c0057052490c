-- `dictionary::read_header` meets its contract: each refusal is the first row that holds. This is the place where the limits are opened.
-- Assumes nothing.
use Rattle.rules.proofs.Prelude.{arith, first_at, rules}
use Rattle.width.specs.Limits.{u32_max}
use Rattle.dictionary.specs.Limits.{limit}
use Rattle.dictionary.proofs.read_header.Statement.{statement}
use Rattle.dictionary.proofs.read_header.Tie as tie

pub read_header_spec : {M : Type 1} → statement M
unfolding limit u32_max
read_header_spec =
    tie.close
    (tie.spec
    (λ c. first_at 0 _ (omega arith))  -- returns
    (λ c. first_at 1 _ (omega arith))  -- returns-2
    (λ c κs. search rules)  -- lead-of-requires
    (λ c. first_at 2 _ (omega arith))  -- returns-3
    (λ c. search rules)  -- add-if4
    (λ c. first_at 3 _ (omega arith))  -- returns-4
    (λ c κs. search rules)  -- places-of-requires
    (λ c. first_at 4 _ (omega arith))  -- returns-5
    (λ c. first_at 5 _ (omega arith))  -- returns-6
    (λ c κs. search rules)  -- offset-at-requires
    (λ c. first_at 6 _ (omega arith))  -- returns-7
    (λ c κs. search rules)  -- end-of-requires
    (λ c. first_at 7 _ (omega arith))  -- returns-8
    (λ c. first_at 8 _ (omega arith))  -- returns-9
    (λ c. search rules))  -- returns-10
