-- `composed::compose` meets its contract: the parts that are written are the lines of the text and their ends. Assumes nothing.
use mathlib.Core.Path.{sym}
use Prim.Native.Nat.{ℕ}
use lib.ListN.{length-replicate}
use Rattle.rules.proofs.Prelude.{arith, rules}
use Rattle.composed.proofs.Laws.{of_lines}
use Rattle.composed.proofs.compose.Statement.{statement}
use Rattle.composed.proofs.compose.Tie as tie

pub compose_spec : {M : Type 1} → statement M
compose_spec =
    tie.close
    (tie.spec
    (λ c. sym (length-replicate {A = ℕ} _ 0))  -- slice-aggregate-gather
    (λ c. sym (length-replicate {A = ℕ} _ 0))  -- slice-aggregate-gather-2
    (λ c κs. search rules)  -- gather-requires
    (λ c. search rules)  -- sub-write-dictionary
    (λ c. search rules)  -- part-write-dictionary-start
    (λ c. search rules)  -- part-write-dictionary-end
    (λ c. search rules)  -- sub-write-dictionary-2
    (λ c. search rules)  -- part-write-dictionary-start-2
    (λ c. search rules)  -- part-write-dictionary-end-2
    (λ c. sym (length-replicate {A = ℕ} _ 0))  -- slice-aggregate-write-dictionary
    (λ c. sym (length-replicate {A = ℕ} _ 0))  -- slice-aggregate-write-dictionary-2
    (λ c κs. search rules)  -- write-dictionary-requires
    (λ c. search rules)  -- same-length
    (λ c. let call = c in
    let gathered = call in
    let w = call.write_dictionary.ensures in
    of_lines _ gathered.args.out.now gathered.gather-names.ensures.0 (omega arith) w.0 w.1))  -- returns
