-- One element of a list, asked for by its index (document 02, h and i): what a lookup by name is to an object. v is the bytes that begin with
-- the list; a byte that is not there reads as 0. Assumes nothing.
use Rattle.std.specs.Prelude.{cond, List, [], ◌∷◌, ℕ, ◌+◌, ◌%◌, ltb, length, get_or}
use Rattle.rules.specs.Rules.{Answer, Rule, Found, accept, first, ◌or_else◌, ◌otherwise◌}
use Rattle.rules.specs.Rules.Answer.{gives}
use Rattle.rules.specs.Rules.Rule.{◌⇒◌at◌}
use Rattle.rules.specs.Rules.Test.{◌<?◌, ◌≠?◌}
use Rattle.dictionary.specs.Limits.{limit}
use Rattle.layout.specs.declared.Widths.{Widths}
use Rattle.layout.specs.Layout.{count, child_start}
use Rattle.encoding.specs.Encoding.{list_widths}
use Rattle.list.specs.List as list

-- the widths that the header byte says
abbrev pub widths : List ℕ → Widths
widths v = list_widths (get_or v 0 0)

-- THE CHECKS, IN ORDER: 20 to 22 as an object has them, the basic type being 3; then the list's own, over all elements
abbrev pub head_rules : List ℕ → List Rule
head_rules v =
    (limit <? length v ⇒ 20 at 0)
    ∷ (length v <? 1 ⇒ 21 at 0)
    ∷ (get_or v 0 0 % 4 ≠? 3 ⇒ 22 at 0)
    ∷ []

unfoldable pub checks : List ℕ → Found
checks v = first (head_rules v) or_else list.checks (widths v) v

-- Found gives the index, no id, start and end, these two counted from the list's first byte; an index past the list is absent, 1
abbrev pub found : List ℕ → ℕ → Answer
found v n = cond (ltb n (count (widths v) v)) (accept (n ∷ 0 ∷ child_start (widths v) v n ∷ child_start (widths v) v (n + 1) ∷ [])) (gives 1 [] 0)

unfoldable pub element : List ℕ → ℕ → Answer
element v n = checks v otherwise found v n
