-- `dictionary_calls::empty` meets its contract: the code of the answer. Assumes nothing.
use Rattle.rules.proofs.Prelude.{sym, ap, ◌∙◌, code_of}
use Rattle.metadata.specs.Answers.{written_numbers}
use Rattle.dictionary_calls.proofs.empty.Goals as goal

pub returns-in-Ok : goal.returns-in-Ok
returns-in-Ok c =
    let e = c.write_empty.ensures in
    record { returns = ap code_of (sym (ap written_numbers c.in-Ok.is) ∙ e.answers); leaves = e.leaves }

pub returns-in-Err : goal.returns-in-Err
returns-in-Err c =
    let e = c.write_empty.ensures in
    record { returns = ap code_of (sym (ap written_numbers c.in-Err.is) ∙ e.answers); leaves = e.leaves }
