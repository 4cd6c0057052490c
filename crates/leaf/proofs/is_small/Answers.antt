-- `leaf::is_small` meets its contract: a primitive of a fixed length, and a short string of text, are good leaves. Assumes nothing.
use Rattle.rules.proofs.Prelude.{sym, ◌-◌, arith, leb-true}
use Rattle.leaf.proofs.Small.{small_primitive, small_string}
use Rattle.leaf.proofs.is_small.Goals as goal

pub returns-in-Some : goal.returns-in-Some
returns-in-Some c so =
    let x = c.args in
    let fits = leb-true c.in-Some.bytes (x.e - x.a) so in
    small_primitive x.whole.now x.a x.e (omega arith) c.requires.1 _ _ c.in-Primitive.ensures (sym c.in-Some.ensures) fits

pub returns-in-ShortString : goal.returns-in-ShortString
returns-in-ShortString c so =
    let x = c.args in
    let text = c.is_short_text.ensures so in
    small_string x.whole.now x.a x.e (omega arith) c.requires.1 _ c.in-ShortString.ensures text.0 text.1
