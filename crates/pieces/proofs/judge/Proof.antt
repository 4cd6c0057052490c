-- `pieces::judge` meets its contract: what settles is the verdict; the rest is 44 or more. Assumes nothing.
use Rattle.rules.proofs.Prelude.{sym, ◌∙◌, lt-ltb, le-ltb, length, arith, rules}
use Rattle.dictionary.specs.Wanted.{wanted}
use Rattle.pieces.proofs.Wanting.{lacking}
use Rattle.pieces.proofs.Laws.{judged_settled, judged_full, judged_more}
use Rattle.pieces.proofs.judge.Statement.{statement}
use Rattle.pieces.proofs.judge.Tie as tie

pub judge_spec : {M : Type 1} → statement M
judge_spec =
    tie.close
    (tie.spec
    (λ c κs. search rules) (λ c κs. search rules)
    (λ c. let kept = c.args.kept.now in
    c.check.ensures ∙ sym (judged_settled kept _ (lacking kept ∙ le-ltb (length kept) (wanted kept) (omega arith))))  -- returns
    (λ c. let kept = c.args.kept.now in
    rw c.if-over.true (sym (judged_full kept (lacking kept ∙ lt-ltb (length kept) (wanted kept) (omega arith)))))  -- returns-2
    (λ c. let kept = c.args.kept.now in
    rw (c.wanted-wanted.ensures, c.if-over.false) (sym (judged_more kept (lacking kept ∙ lt-ltb (length kept) (wanted kept) (omega arith))))))  -- returns-3
