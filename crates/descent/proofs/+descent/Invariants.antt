-- The measures of the three functions are the levels left, and within a level the order in which they call one another. Assumes nothing.
use Rattle.std.proofs.Common.{◌≡◌, ◌+◌, ◌*◌, ◌≤◌, length}
use Rattle.nodes.specs.Steps.{Remembers}
use Rattle.nodes.proofs.Steps.{Before}
use Rattle.descent.proofs.+descent.Given as goal

abbrev pub decreases-check_children : goal.decreases-check_children
decreases-check_children l = 3 * l.left + 2

abbrev pub decreases-check_new : goal.decreases-check_new
decreases-check_new l = 3 * l.left

abbrev pub decreases-check_value : goal.decreases-check_value
decreases-check_value l = 3 * l.left + 1

-- the first k children are good, and what is remembered holds
abbrev pub invariant-check_children-loop-k : goal.invariant-check_children-loop-k
invariant-check_children-loop-k l =
    (l.height ≤ l.left)
    × Before l.over.dict.now l.over.value.now l.at.start l.at.end l.c l.height l.k
    × Remembers l.over.dict.now l.over.value.now l.marks l.text
    × (length l.marks ≡ length l.initial.marks)
