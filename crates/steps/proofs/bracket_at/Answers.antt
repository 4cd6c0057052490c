-- `steps::bracket_at` meets its contract: what the pass over the brackets has seen decides. Assumes nothing.
use Rattle.std.proofs.lemmas.Result.{err_from_is_err_and}
use Rattle.std.proofs.Common.{refl, sym, ◌∙◌, ◌+◌, drop, arith}
use Rattle.brackets.proofs.Laws.{no_byte, after_byte}
use Rattle.steps.proofs.Laws.{bracket_open, look_none, look_unquoted, look_quoted}
use Rattle.steps.proofs.bracket_at.Goals as goal
use Rattle.steps.proofs.bracket_at.Goals.{in_default-via-in-Byte+else-is_quoted, in_default-via-in_default}

pub returns-in_err-look : goal.returns-in_err-look
returns-in_err-look c =
    let p = err_from_is_err_and c.from_residual.result c.from_residual.ensures.1 in
    rw (p.1, p.2, bracket_open (drop (c.args.at + 1) c.args.path.now) c.in_err-look.ensures.0) (refl, tt)

pub returns-in-Byte : goal.returns-in-Byte
returns-in-Byte c =
    let r = c.in_ok-look.ensures in
    let both = sym c.is_quoted.ensures ∙ c.if-is_quoted.true in
    (look_quoted r c.in-Byte.ensures both, (after_byte c.in-Byte.ensures r.count_is, omega (arith, r.shut), omega (arith, r.inside)))

pub returns-in_default : goal.returns-in_default
returns-in_default c =
    let r = c.in_ok-look.ensures in
    elim c.in_default.branch [
      | in_default-via-in-Byte+else-is_quoted w ↦
          let unquoted = sym w.is_quoted.ensures ∙ w.if-is_quoted.false in
          (c.numbered_at.ensures.0 ∙ look_unquoted r w.in-Byte.ensures unquoted, c.numbered_at.ensures.1)
      | in_default-via-in_default w ↦
          let none = no_byte c.args.path.now (c.args.at + 1) _ c.unit_at.ensures w.in_default.not-Byte in
          (c.numbered_at.ensures.0 ∙ look_none r none, c.numbered_at.ensures.1)
    ]
