-- `entries::check_each` meets its contract: the loop keeps that all entries before k pass. Assumes nothing.
use Rattle.std.proofs.lemmas.Result.{err_from_is_err_and}
use Rattle.rules.proofs.Prelude.{◌≡◌, sym, ◌∙◌, arith, each_none, each_more, each_stop}
use Rattle.dictionary.specs.Dictionary.{count as count_of}
use Rattle.dictionary.proofs.Laws.{uncut_zero}
use Rattle.entries.proofs.check_each.Goals as goal

pub loop-k-init : goal.loop-k-init
loop-k-init c =
    let s = c in (
      record { before_is = omega arith; start_is = omega arith; rises = omega arith; inside = omega arith; whole = uncut_zero _ s.requires.2 },
      each_none _,
    )

pub returns-in_err-e : goal.returns-in_err-e
returns-in_err-e c =
    let l = c.loop-k in
    let p = err_from_is_err_and c.from_residual.result c.from_residual.ensures.1 in
    rw (p.1, p.2) (sym (each_stop _ l.k _ l.invariant.1 c.in_err-e.ensures (omega arith)))

pub loop-k-preserved : goal.loop-k-preserved
loop-k-preserved c =
    let l = c.loop-k in
    let passes = c.in_ok-e.ensures in
    (passes.1, each_more _ l.k l.invariant.1 ∙ passes.0)

pub returns : goal.returns
returns c =
    let l = c.loop-k in
    let all : l.k ≡ count_of c.args.dict.now = omega arith in
    rw (← all) (sym l.invariant.1)
