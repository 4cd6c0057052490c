-- `marked::check_marked` meets its contract: the dictionary, the limit, and what is found of the whole as a value. Assumes nothing.
use Rattle.rules.proofs.Prelude.{ap, ◌∙◌, ◌≤◌, arith, length}
use Rattle.std.proofs.lemmas.Result.{err_from_is_err_and}
use Rattle.dictionary.specs.Limits.{limit}
use Rattle.lengths.specs.Lengths.{bytes_of}
use Rattle.nodes.specs.Tree.{levels}
use Rattle.nodes.proofs.Marks.{remembers_none}
use Rattle.marked.proofs.Settled.{by_dictionary, too_long, refused_by, found_bad, found_good}
use Rattle.marked.proofs.check_marked.Goals as goal

pub returns-then-value-gt-LIMIT : goal.returns-then-value-gt-LIMIT
unfolding limit
returns-then-value-gt-LIMIT c =
    let x = c.args in
    refused_by x.depth x.dict.now x.value.now (too_long x.depth x.dict.now x.value.now c.in_ok-header.ensures.1 (omega arith))

pub check_value-requires : goal.check_value-requires
unfolding levels limit
check_value-requires c =
    let x = c.args in (
      record { over = c.in_ok-header.ensures; limited = omega arith; rises = omega arith; inside = omega arith },
      omega arith,
      remembers_none x.dict.now x.value.now c.requires,
    )

pub returns-in_err-check_value : goal.returns-in_err-check_value
unfolding limit
returns-in_err-check_value c =
    let x = c.args in
    let fits : length x.value.now ≤ limit = omega arith in
    let told = err_from_is_err_and c.from_residual-in_err-check_value.result c.from_residual-in_err-check_value.ensures.1 in
    rw (told.1, told.2)
    (found_bad x.depth x.dict.now x.value.now c.in_ok-header.ensures.1 fits _ c.levels_from.ensures c.in_err-check_value.ensures)

pub returns-in_err-header : goal.returns-in_err-header
returns-in_err-header c =
    let x = c.args in
    let told = err_from_is_err_and c.from_residual.result c.from_residual.ensures.1 in
    rw (told.1, told.2) (refused_by x.depth x.dict.now x.value.now (by_dictionary x.depth x.dict.now x.value.now c.in_err-header.ensures))

pub returns : goal.returns
unfolding limit
returns c =
    let x = c.args in
    let fits : length x.value.now ≤ limit = omega arith in
    let good = c.in_ok-check_value.ensures in
    found_good x.depth x.dict.now x.value.now c.in_ok-header.ensures.1 fits _ c.levels_from.ensures _ good.0 good.1
    (c.bytes_of.ensures ∙ ap bytes_of c.own_length.ensures)
