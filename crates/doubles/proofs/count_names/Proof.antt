-- `doubles::count_names` meets its contract: a sort keeps each name once. Assumes nothing.
use lib.Seq.{length-take-le}
use Rattle.rules.proofs.Prelude.{◌≡◌, sym, ◌∙◌, ◌-◌, arith, rules, length, take}
use Rattle.sort.proofs.Laws.{held_count}
use Rattle.doubles.proofs.count_names.Statement.{statement}
use Rattle.doubles.proofs.count_names.Tie as tie

pub count_names_spec : {M : Type 1} → statement M
count_names_spec =
    tie.close
    (tie.spec
    (λ c. search rules) (λ c. search rules) (λ c. search rules)  -- the part of order
    (λ c. search rules) (λ c. search rules) (λ c. search rules)  -- the part of spare
    (λ c κs. let s = c in
    let m = s.args.many in
    let o = length-take-le (m - 0) s.args.order.now (omega arith) in
    let p = length-take-le (m - 0) s.args.spare.now (omega arith) in
    (s.requires.0, o ∙ sym p, omega (arith, o), omega arith))  -- sort-requires
    (λ c. search rules) (λ c. search rules)  -- same-length
    (λ c. let a = c.args in
    let all : length (take (a.many - 0) a.order.now) ≡ a.many = length-take-le (a.many - 0) a.order.now (omega arith) ∙ omega arith in
    sym (rw all at (held_count c.sort.ensures))))  -- returns
