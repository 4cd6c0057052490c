-- `columns::judge_id` meets its contract: each refusal is the first row that holds. Assumes nothing.
use Rattle.rules.proofs.Prelude.{sym, arith, first_at, first_pass}
use Rattle.columns.specs.Steps.{id_row}
use Rattle.columns.proofs.judge_id.Goals as goal

pub returns-then-entries-id : goal.returns-then-entries-id
returns-then-entries-id c = let a = c.args in sym (first_at 0 (id_row a.entries a.k a.before a.id) (omega arith))

pub returns-then-k-eq0 : goal.returns-then-k-eq0
returns-then-k-eq0 c = let a = c.args in sym (first_pass (id_row a.entries a.k a.before a.id) (omega arith))

pub returns-then-before-id : goal.returns-then-before-id
returns-then-before-id c = let a = c.args in sym (first_pass (id_row a.entries a.k a.before a.id) (omega arith))

pub returns : goal.returns
returns c = let a = c.args in sym (first_at 1 (id_row a.entries a.k a.before a.id) (omega arith))
