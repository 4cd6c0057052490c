-- `leads::classify` meets its contract: each arm of the `match` is a row of the table, and what is in no arm is in no row. Assumes nothing.
use mathlib.Core.Path.{refl, sym, ◌∙◌}
use native.Mathlib.Omega.{arith}
use borrow.Author.Rules.{rules}
use Rattle.leads.specs.Table.{asks}
use Rattle.leads.proofs.Table.{lead_is}
use Rattle.leads.proofs.classify.Statement.{statement}
use Rattle.leads.proofs.classify.Tie as tie

pub classify_spec : {M : Type 1} → statement M
classify_spec =
    tie.close
    (tie.spec
    (λ c κs. search rules) (λ c κs. search rules) (λ c κs. search rules) (λ c κs. search rules) (λ c κs. search rules) (λ c κs. search rules)
    (λ c κs. search rules) (λ c κs. search rules) (λ c κs. search rules)
    (λ c. search rules ∙ sym (lead_is 0xE0 0xE0 (asks 0xA0 0xBF 2) refl (omega arith) (omega arith)))
    (λ c. search rules ∙ sym (lead_is 0xED 0xED (asks 0x80 0x9F 2) refl (omega arith) (omega arith)))
    (λ c. search rules ∙ sym (lead_is 0xF0 0xF0 (asks 0x90 0xBF 3) refl (omega arith) (omega arith)))
    (λ c. search rules ∙ sym (lead_is 0xF4 0xF4 (asks 0x80 0x8F 3) refl (omega arith) (omega arith)))
    (λ c. search rules ∙ sym (lead_is 0x00 0x7F (asks 0x80 0xBF 0) refl (omega arith) (omega arith)))
    (λ c. search rules ∙ sym (lead_is 0xC2 0xDF (asks 0x80 0xBF 1) refl (omega arith) (omega arith)))
    (λ c. search rules ∙ sym (lead_is 0xE1 0xEC (asks 0x80 0xBF 2) refl (omega arith) (omega arith)))
    (λ c. search rules ∙ sym (lead_is 0xEE 0xEF (asks 0x80 0xBF 2) refl (omega arith) (omega arith)))
    (λ c. search rules ∙ sym (lead_is 0xF1 0xF3 (asks 0x80 0xBF 3) refl (omega arith) (omega arith)))
    (λ c. sym (lead_is 0x80 0xC1 _ refl (omega arith) (omega arith)))
    (λ c. sym (lead_is 0xF5 0xFF _ refl (omega arith) (omega arith))))
