-- `writing::write_step` meets its contract: a name is copied and its row put, or an index's row is. Assumes nothing.
use Rattle.std.proofs.Common.{false, take, drop, length-drop, arith}
use lib.Seq.{length-take-le}
use Rattle.width.specs.Limits.{u32_max}
use Rattle.brackets.specs.Brackets.{content}
use Rattle.writing.proofs.Measures.{plain_takes, quoted_takes}
use Rattle.writing.proofs.Writes.{due_room, wrote_name, wrote_index}
use Rattle.writing.proofs.write_step.Goals as goal

pub copy-requires : goal.copy-requires
copy-requires c =
    let r = rw c.in-Plain.ensures at c.step_at.ensures in
    (r.1.0, (due_room c.requires.1 (plain_takes c.in-Plain.from r.0 r.1)).0)

pub put_row-requires : goal.put_row-requires
put_row-requires c =
    let r = rw c.in-Plain.ensures at c.step_at.ensures in
    let d = due_room c.requires.1 (plain_takes c.in-Plain.from r.0 r.1) in
    (d.1, omega arith, omega (arith, d), omega (arith, d))

pub copy_content-requires : goal.copy_content-requires
copy_content-requires c =
    let r = rw c.in-Quoted.ensures at c.step_at.ensures in
    (due_room c.requires.1 (quoted_takes c.in-Quoted.from r.0 r.1)).0

pub put_row-requires-in-Quoted : goal.put_row-requires-in-Quoted
put_row-requires-in-Quoted c =
    let r = rw c.in-Quoted.ensures at c.step_at.ensures in
    let d = due_room c.requires.1 (quoted_takes c.in-Quoted.from r.0 r.1) in
    (d.1, omega arith, omega (arith, d), omega (arith, d))

pub put_row-requires-in-Index : goal.put_row-requires-in-Index
unfolding u32_max
put_row-requires-in-Index c =
    let r = rw c.in-Index.ensures at c.step_at.ensures in
    (c.requires.1.words_room, omega arith, omega (arith, r.1.0), omega (arith, r.1.0))

pub returns-in-Plain : goal.returns-in-Plain
returns-in-Plain c =
    let r = rw c.in-Plain.ensures at c.step_at.ensures in
    let rest = drop c.in-Plain.from c.args.path.now in
    let n = c.in-Plain.len in
    let whole = length-take-le n rest (simp length-drop (omega (arith, r.1.0))) in
    wrote_name (take n rest) r.0 whole r.1.2 c.copy.ensures c.put_row.ensures

pub returns-in-Quoted : goal.returns-in-Quoted
returns-in-Quoted c =
    let r = rw c.in-Quoted.ensures at c.step_at.ensures in
    let rest = content false (drop c.in-Quoted.from c.args.path.now) in
    let n = c.in-Quoted.len in
    let whole = length-take-le n rest r.1.0 in
    wrote_name (take n rest) r.0 whole r.1.2 c.copy_content.ensures c.put_row-in-Quoted.ensures

pub returns-in-Index : goal.returns-in-Index
returns-in-Index c =
    let r = rw c.in-Index.ensures at c.step_at.ensures in
    wrote_index r.0 r.1.1 c.put_row-in-Index.ensures
