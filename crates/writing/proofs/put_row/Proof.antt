-- `writing::put_row` meets its contract. Assumes nothing.
use Rattle.rules.proofs.Prelude.{◌≡◌, suc, ◌+◌, length-set, arith, rules}
use Rattle.width.specs.Limits.{u32_max}
use Rattle.writing.proofs.put_row.Statement.{statement}
use Rattle.writing.proofs.put_row.Tie as tie

pub put_row_spec : {M : Type 1} → statement M
unfolding u32_max
put_row_spec =
    tie.close
    (tie.spec
    (λ c. search rules)  -- cast-words
    (λ c. search rules)  -- mul-words
    (λ c. search rules)  -- slice-write-words
    (λ c. search rules)  -- cast-words-2
    (λ c. search rules)  -- add-words
    (λ c. search rules)  -- mul-words-2
    (λ c. simp length-set (omega arith))  -- slice-write-words-2
    (λ c. search rules)  -- cast-words-3
    (λ c. search rules)  -- add-words-2
    (λ c. search rules)  -- mul-words-3
    (λ c. simp length-set (omega arith))  -- slice-write-words-3
    (λ c. search rules)  -- same-length
    (λ c. let row = c.args.row in
    let e : row + 1 ≡ suc row = omega arith in
    let f : row + 2 ≡ suc (suc row) = omega arith in
    rw (e, f)))  -- returns
