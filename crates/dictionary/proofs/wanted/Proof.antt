-- `dictionary::wanted` meets its contract: each return is what the first row that holds asks for. Assumes nothing.
use Rattle.rules.proofs.Prelude.{sym, ◌∙◌, arith, rules}
use Rattle.width.specs.Limits.{u32_max}
use Rattle.dictionary.specs.Limits.{limit}
use Rattle.dictionary.proofs.Asked.{wanted_at, wanted_none}
use Rattle.dictionary.proofs.wanted.Statement.{statement}
use Rattle.dictionary.proofs.wanted.Tie as tie

pub wanted_spec : {M : Type 1} → statement M
unfolding limit u32_max
wanted_spec =
    tie.close
    (tie.spec
    (λ c. sym (wanted_at _ 0 (omega arith)))  -- returns
    (λ c. sym (wanted_at _ 1 (omega arith)))  -- returns-2
    (λ c κs. search rules)  -- lead-of-requires
    (λ c. sym (wanted_at _ 2 (omega arith)))  -- returns-3
    (λ c. search rules)  -- add-if4
    (λ c. search rules)  -- add
    (λ c. sym (wanted_at _ 3 (omega arith) ∙ omega arith))  -- returns-4
    (λ c κs. search rules)  -- places-of-requires
    (λ c. sym (wanted_at _ 4 (omega arith)))  -- returns-5
    (λ c. sym (wanted_at _ 5 (omega arith) ∙ omega arith))  -- returns-6
    (λ c κs. search rules)  -- offset-at-requires
    (λ c. sym (wanted_at _ 6 (omega arith)))  -- returns-7
    (λ c κs. search rules)  -- end-of-requires
    (λ c. sym (wanted_at _ 7 (omega arith)))  -- returns-8
    (λ c. sym (wanted_at _ 8 (omega arith) ∙ omega arith))  -- returns-9
    (λ c. sym (wanted_none _ (omega arith))))  -- returns-10
