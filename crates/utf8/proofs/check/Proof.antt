-- `utf8::check` meets its contract: what is left after the longest text decides. Assumes nothing.
use mathlib.Core.Path.{sym, ◌∙◌}
use native.Mathlib.Omega.{arith}
use borrow.Author.Rules.{rules}
use Rattle.chars.proofs.Laws.{text_le}
use Rattle.utf8.proofs.Judges.{left_none, left_cut, left_broken}
use Rattle.utf8.proofs.check.Statement.{statement}
use Rattle.utf8.proofs.check.Tie as tie

pub check_spec : {M : Type 1} → statement M
check_spec =
    tie.close
    (tie.spec
    (λ c κs. search rules)  -- valid-len-requires
    (λ c. let v = c in let s = v.args.s.now in
    sym (left_none s v.valid_len-at.result (sym v.valid_len-at.ensures) c.if-at-end.true))  -- returns
    (λ c κs. search rules)  -- begins-at-requires
    (λ c. let v = c in let s = v.args.s.now in
    sym (left_cut s v.valid_len-at.result (sym v.valid_len-at.ensures) (sym c.begins_at.ensures ∙ c.if-begins_at.true)))  -- returns-2
    (λ c. let v = c in let s = v.args.s.now in
    sym (left_broken s v.valid_len-at.result (sym v.valid_len-at.ensures) (sym c.begins_at.ensures ∙ c.if-begins_at.false) (omega (arith, text_le s)))))  -- returns-3
