-- `leaf::check_measured` meets its contract: a string is as its text is, and all else is good. Assumes nothing.
use Rattle.rules.proofs.Prelude.{arith, refl, sym, ◌∙◌}
use Rattle.leaf.specs.Leaf.{is_string, text_start}
use Rattle.leaf.proofs.Steps.{starts_inside, ends_inside, some, string_type, after_five, no_string, as_its_text}
use Rattle.leaf.proofs.check_measured.Goals as goal

pub bounds-whole-a : goal.bounds-whole-a
bounds-whole-a c = omega (arith, starts_inside c.requires)

pub overflow_add-a-then-is_string : goal.overflow_add-a-then-is_string
overflow_add-a-then-is_string c = omega (arith, ends_inside c.requires)

pub check_text-requires : goal.check_text-requires
check_text-requires c =
    let p = c.requires in
    let five = after_five p c.in-Primitive.ensures.says (string_type c.in-Primitive.t (sym c.is_string.ensures ∙ c.if-is_string.true)) in
    (p.2, omega arith, omega (arith, ends_inside p))

pub returns-then-is_string : goal.returns-then-is_string
unfolding text_start
returns-then-is_string c =
    as_its_text c.requires c.in-Primitive.ensures.says (sym c.is_string.ensures ∙ c.if-is_string.true) c.check_text.result c.check_text.ensures

pub overflow_add-a-in-ShortString-2 : goal.overflow_add-a-in-ShortString-2
overflow_add-a-in-ShortString-2 c = omega (arith, ends_inside c.requires)

pub check_text-requires-in-ShortString : goal.check_text-requires-in-ShortString
check_text-requires-in-ShortString c = let p = c.requires in (p.2, omega (arith, some p), omega (arith, ends_inside p))

pub returns-else-is_string : goal.returns-else-is_string
returns-else-is_string c = no_string c.requires c.in-Primitive.ensures.says (sym c.is_string.ensures ∙ c.if-is_string.false)

pub returns-in-ShortString : goal.returns-in-ShortString
unfolding is_string text_start
returns-in-ShortString c =
    as_its_text c.requires c.in-ShortString.ensures.says refl c.check_text-in-ShortString.result c.check_text-in-ShortString.ensures

pub returns-in-Object : goal.returns-in-Object
unfolding is_string
returns-in-Object c = no_string c.requires c.in-Object.ensures.says refl

pub returns-in-List : goal.returns-in-List
unfolding is_string
returns-in-List c = no_string c.requires c.in-List.ensures.says refl
