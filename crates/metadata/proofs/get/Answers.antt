-- `metadata::get` meets its contract: the dictionary's refusal, then 31, then the span. Assumes nothing.
use Rattle.std.proofs.lemmas.Result.{err_from_is_err_and}
use Rattle.rules.proofs.Prelude.{sym, ◌∙◌, ◌≤◌, ◌<◌, arith, refused, answered, stops, goes, first_at, first_pass}
use Rattle.dictionary.specs.Dictionary.{count, name_at_within}
use Rattle.metadata.proofs.get.Goals as goal

pub returns-in_err-h : goal.returns-in_err-h
unfolding name_at_within
returns-in_err-h c =
    let p = err_from_is_err_and c.from_residual.result c.from_residual.ensures.1 in
    rw (p.1, p.2) (sym (refused _ (stops _ c.in_err-h.ensures)))

pub returns-then-h-i : goal.returns-then-h-i
unfolding name_at_within
returns-then-h-i c =
    let h = c.in_ok-h.ensures in
    let beyond : count c.args.dict.now ≤ c.args.i = omega arith in
    sym (refused _ (goes _ h.1 ∙ first_at 0 _ beyond))

pub span_of-requires : goal.span_of-requires
span_of-requires c = let h = c.in_ok-h.ensures in (h, omega arith)

pub returns : goal.returns
unfolding name_at_within
returns c =
    let h = c.in_ok-h.ensures in
    let within : c.args.i < count c.args.dict.now = omega arith in
    rw (c.span_of.ensures.start_is, c.span_of.ensures.end_is) (sym (answered _ (goes _ h.1 ∙ first_pass _ (within, tt))))
