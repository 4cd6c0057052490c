-- `bits::of_read` meets its contract: case by case. Assumes nothing.
use Rattle.rules.proofs.Prelude.{◌∙◌, ap, List, ℕ, arith, rules}
use mir.Syntax.{w8, w16, w32, w64}
use mir.Facts.{to_z-of_z}
use Rattle.number.specs.Signed.{extended}
use Rattle.value.specs.Answers.{in_two}
use Rattle.strip.specs.Shapes.{words_of, value_shape}
use Rattle.bits.proofs.Laws.{wider, same}
use Rattle.bits.proofs.of_read.Statement.{statement}
use Rattle.bits.proofs.of_read.Tie as tie

abbrev two : ℕ → ℕ → List ℕ
two kind bits = words_of value_shape (in_two kind bits)

pub of_read_spec : {M : Type 1} → statement M
of_read_spec =
    tie.close
    (tie.spec
    (λ c. search rules) (λ c κs. search rules) (λ c. search rules) (λ c κs. search rules)
    (λ c. search rules)
    (λ c. wider w8 (omega arith) c.in-I8.z (record { sfits = c.in-I8.known_told-in-I8-1-own.given.0.1 }))  -- cast-extended
    (λ c κs. search rules) (λ c κs. search rules)
    (λ c. search rules)
    (λ c. wider w16 (omega arith) c.in-I16.z (record { sfits = c.in-I16.known_told-in-I16-1-own.given.0.1 }))  -- cast-extended-2
    (λ c κs. search rules) (λ c κs. search rules)
    (λ c. search rules)
    (λ c. wider w32 (omega arith) c.in-I32.z (record { sfits = c.in-I32.known_told-in-I32-1-own.given.0.1 }))  -- cast-extended-3
    (λ c κs. search rules) (λ c κs. search rules)
    (λ c. search rules) (λ c κs. search rules) (λ c κs. search rules)
    (λ c. search rules)
    (λ c. rw c.in-F32.is at c.requires)  -- float-to-bits-in-one
    (λ c κs. search rules) (λ c. search rules) (λ c κs. search rules) (λ c. search rules)
    (λ c. rw c.in-F64.is at c.requires)  -- float-to-bits-in-two
    (λ c κs. search rules) (λ c. search rules) (λ c κs. search rules)
    (λ c. search rules) (λ c κs. search rules) (λ c κs. search rules)
    (λ c. rw c.in-Null.is c.answer.ensures)  -- returns
    (λ c. rw c.in-Bool.is c.of_truth.ensures)  -- returns-2
    (λ c. let n = c in
    let is = same w8 (omega arith) _ (record { sfits = n.in-I8.known_told-in-I8-1-own.given.0.1 }) in
    rw n.in-I8.is (c.in_two.ensures ∙ ap (two 3) (c.extended.ensures ∙ ap extended is)))  -- returns-3
    (λ c. let n = c in
    let is = same w16 (omega arith) _ (record { sfits = n.in-I16.known_told-in-I16-1-own.given.0.1 }) in
    rw n.in-I16.is (c.in_two-in-I16.ensures ∙ ap (two 4) (c.extended-in-I16.ensures ∙ ap extended is)))  -- returns-4
    (λ c. let n = c in
    let is = same w32 (omega arith) _ (record { sfits = n.in-I32.known_told-in-I32-1-own.given.0.1 }) in
    rw n.in-I32.is (c.in_two-in-I32.ensures ∙ ap (two 5) (c.extended-in-I32.ensures ∙ ap extended is)))  -- returns-5
    (λ c. let n = c in
    let is = to_z-of_z {w = w64} (record { sfits = n.in-I64.known_told-in-I64-1-own.given.0.1 }) in
    rw n.in-I64.is (c.in_two-in-I64.ensures ∙ ap (two 6) (c.extended-in-I64.ensures ∙ ap extended is)))  -- returns-6
    (λ c. rw c.in-F32.is c.in_one.ensures)  -- returns-7
    (λ c. rw c.in-F32Nan.is c.in_one-in-F32Nan.ensures)  -- returns-8
    (λ c. rw c.in-F64.is c.in_two-in-F64.ensures)  -- returns-9
    (λ c. rw c.in-F64Nan.is c.in_two-in-F64Nan.ensures)  -- returns-10
    (λ c. rw (c.in-Bytes.is, ← c.number_of.ensures) c.answer-in-Bytes.ensures))  -- returns-11
