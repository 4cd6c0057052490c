-- `strides::take` meets its contract: the step that the words say. Assumes nothing.
use Rattle.rules.proofs.Prelude.{◌≡◌, ◌∙◌, sym, ap, ◌+◌, arith, rules, get_or, answered, ne_eqb}
use Rattle.strides.specs.Stride.{as_step, stride}
use Rattle.strides.proofs.take.Statement.{statement}
use Rattle.strides.proofs.take.Tie as tie

pub take_spec : {M : Type 1} → statement M
unfolding stride
take_spec =
    tie.close
    (tie.spec
    (λ c. omega (arith, c.requires.1.room)) (λ c. search rules) (λ c. omega (arith, c.requires.1.room))
    (λ c. omega (arith, c.shared_slice_known-5-1.given (c.args.row + 1)))  -- cast-a
    (λ c. omega (arith, c.requires.1.room)) (λ c. search rules) (λ c. omega (arith, c.requires.1.room))
    (λ c. omega (arith, c.shared_slice_known-6-1.given (c.args.row + 2)))  -- cast-b
    (λ c. search rules) (λ c. omega (arith, c.requires.1.room))
    (λ c. omega (arith, c.requires.1.rises (search rules)))  -- sub-by-name
    (λ c. let stands = c.requires.1 in
    omega (arith, stands.rises (search rules), stands.inside (search rules)))  -- part-by_name-start
    (λ c. omega (arith, c.requires.1.inside (search rules)))  -- part-by_name-end
    (λ c κs. search rules)
    (λ c. let named : get_or c.args.words.now c.args.row 0 ≡ 0 = search rules in rw named c.by_name.ensures)  -- returns
    (λ c. let row = c.args.row in
    omega (arith, c.shared_slice_known-5-1.given (row + 1), c.shared_slice_known-6-1.given (row + 2)))  -- mul-by-index
    (λ c. let row = c.args.row in
    omega (arith, c.shared_slice_known-5-1.given (row + 1), c.shared_slice_known-6-1.given (row + 2)))  -- add-by-index
    (λ c κs. search rules)
    (λ c. let indexed : get_or c.args.words.now c.args.row 0 ≡ 0 → ⊥ = search rules in
    rw (ne_eqb _ 0 indexed) (c.by_index.ensures ∙ ap (as_step c.args.number) (sym (answered _ c.requires.0.1)))))  -- returns-2
