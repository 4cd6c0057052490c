-- `chars::char_at` meets its contract: the first byte's row of the table, and the bytes after it, decide. Assumes nothing.
use Rattle.std.proofs.Common.{sym, ◌∙◌, ◌+◌, true, false, arith}
use Rattle.chars.proofs.Laws.{char_end, char_plain, char_bad, char_seq, tails_fit}
use Rattle.chars.proofs.char_at.Goals as goal

pub returns-then-s-at : goal.returns-then-s-at
returns-then-s-at c = let a = c.args in sym (char_end a.at a.s.now c.if-s-at.true)

pub returns-then-first-lt128 : goal.returns-then-first-lt128
returns-then-first-lt128 c = let a = c.args in sym (char_plain a.at a.s.now (omega arith) c.if-first-lt128.true)

pub overflow_add-result : goal.overflow_add-result
overflow_add-result c =
    let a = c.args in
    omega (arith, tails_fit (a.at + 1) a.s.now _ _ _ (sym c.tails.ensures ∙ c.if-tails.true))

pub returns-in-None : goal.returns-in-None
returns-in-None c = let a = c.args in sym (char_bad a.at a.s.now (omega arith) (sym c.classify.ensures ∙ c.in-None.is))

pub returns-then-tails : goal.returns-then-tails
returns-then-tails c =
    let a = c.args in
    sym (char_seq a.at a.s.now true (omega arith) (sym c.classify.ensures ∙ c.in-Some.is) (sym c.if-tails.true ∙ c.tails.ensures))

pub returns-else-tails : goal.returns-else-tails
returns-else-tails c =
    let a = c.args in
    sym (char_seq a.at a.s.now false (omega arith) (sym c.classify.ensures ∙ c.in-Some.is) (sym c.if-tails.false ∙ c.tails.ensures))
