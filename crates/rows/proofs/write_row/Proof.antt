-- `rows::write_row` meets its contract: five words, one after another. Assumes nothing.
use Rattle.rules.proofs.Prelude.{◌≡◌, List, [], ◌∷◌, ℕ, suc, ◌+◌, arith, rules, length-set, set, sets}
use Rattle.rows.proofs.write_row.Statement.{statement}
use Rattle.rows.proofs.write_row.Tie as tie

five : (w : List ℕ) (at a b c d e : ℕ) → set (set (set (set (set w at a) (at + 1) b) (at + 2) c) (at + 3) d) (at + 4) e ≡ sets w at (a ∷ b ∷ c ∷ d ∷ e ∷ [])
five w at a b c d e =
    let e1 : at + 1 ≡ suc at = omega arith in
    let e2 : at + 2 ≡ suc (suc at) = omega arith in
    let e3 : at + 3 ≡ suc (suc (suc at)) = omega arith in
    let e4 : at + 4 ≡ suc (suc (suc (suc at))) = omega arith in
    rw (e1, e2, e3, e4)

pub write_row_spec : {M : Type 1} → statement M
write_row_spec =
    tie.close
    (tie.spec
    (λ c. search rules) (λ c. search rules) (λ c. search rules) (λ c. search rules)
    (λ c. simp length-set (omega arith))  -- slice-write-words-2
    (λ c. search rules) (λ c. search rules)
    (λ c. simp length-set (omega arith))  -- slice-write-words-3
    (λ c. search rules) (λ c. search rules)
    (λ c. simp length-set (omega arith))  -- slice-write-words-4
    (λ c. search rules) (λ c. search rules)
    (λ c. simp length-set (omega arith))  -- slice-write-words-5
    (λ c. search rules)
    (λ c. let r = c.args.row in five c.args.words.now c.args.at r.code r.field r.id r.start r.end))  -- returns
