-- `doubles::check` meets its contract: there is a double exactly where fewer names than numbers were sorted. Assumes nothing.
use Rattle.rules.proofs.Prelude.{◌∙◌, arith, rules}
use Rattle.sets.proofs.Distinct.{as_many}
use Rattle.source.specs.Names.{name_of}
use Rattle.sort.proofs.Laws.{held_count}
use Rattle.pick.specs.Pick.{list_of}
use Rattle.doubles.proofs.Means.{good, bad}
use Rattle.doubles.proofs.Laws.{fewer}
use Rattle.doubles.proofs.check.Goals as goal

pub returns-then-many-n : goal.returns-then-many-n
unfolding list_of
returns-then-many-n c =
    let p = rw c.in-Some.is at c.plan_for.ensures.0 in
    let n = c.count_of-n.ensures in
    record { passes = (good _ _).1 (as_many _ 0 _ (held_count p ∙ omega arith ∙ n)); planned = p }

pub halve-requires : goal.halve-requires
unfolding list_of
halve-requires c =
    let e = rw c.in-Some.is at c.plan_for.ensures in
    let a = c.args in
    let n = c.count_of-n.ensures in
    (c.requires, n, omega (arith, n, e.1), omega (arith, n, e.1), omega (arith, n, e.1), fewer (name_of a.run.now a.words.now a.kind) n (held_count e.0) (search rules))

pub returns-else-many-n : goal.returns-else-many-n
returns-else-many-n c = rw (← c.count_of-n.ensures) ((bad _ _ _).1 c.halve.ensures)
