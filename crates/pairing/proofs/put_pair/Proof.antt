-- `pairing::put_pair` meets its contract: a store keeps the length. Assumes nothing.
use Rattle.rules.proofs.Prelude.{◌≡◌, refl, sym, suc, ◌+◌, add-one, arith, rules, length-set}
use Rattle.pairing.proofs.put_pair.Statement.{statement}
use Rattle.pairing.proofs.put_pair.Tie as tie

pub put_pair_spec : {M : Type 1} → statement M
put_pair_spec =
    tie.close
    (tie.spec
    (λ c. search rules)  -- cast-words
    (λ c. search rules)  -- mul-words
    (λ c. search rules)  -- slice-write-words
    (λ c. search rules)  -- cast-words-2
    (λ c. search rules)  -- add-words
    (λ c. search rules)  -- mul-words-2
    (λ c. simp length-set (omega (arith, c.requires)))  -- slice-write-words-2
    (λ c. search rules)  -- cast-words-3
    (λ c. search rules)  -- add-words-2
    (λ c. search rules)  -- mul-words-3
    (λ c. simp length-set (omega (arith, c.requires)))  -- slice-write-words-3
    (λ c. search rules)  -- same-length
    (λ c. let at = c.args.at in
    let second : suc at ≡ at + 1 = sym (add-one at) in
    let third : suc (suc at) ≡ at + 2 = omega arith in rw (third, second) refl))  -- returns
