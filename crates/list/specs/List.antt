-- The list layer: its checks in their order (document 02, h; VariantEncoding.md, "Value Data for Array"). Count, offsets and region stand as in
-- an object, without ids; w has the widths that the header byte says, s is the bytes that begin with the list. Element k runs from its offset
-- to the next. Assumes nothing.
use Rattle.std.specs.Prelude.{List, [], ◌∷◌, ℕ, ◌+◌}
use Rattle.rules.specs.Rules.{Rule, Found, first, each, ◌or_else◌}
use Rattle.rules.specs.Rules.Rule.{◌⇒◌at◌}
use Rattle.rules.specs.Rules.Test.{◌<?◌}
use Rattle.layout.specs.declared.Widths.{Widths}
use Rattle.layout.specs.Layout.{count, offset, rules}

-- of element k: its offset is above the next, or above the region's length, which is the last offset
unfoldable pub element_rules : Widths → List ℕ → ℕ → List Rule
element_rules w s k =
    (offset w s (k + 1) <? offset w s k ⇒ 62 at k)
    ∷ (offset w s (count w s) <? offset w s k ⇒ 62 at k)
    ∷ []

-- 60 for 23's causes and 61 for 24's, in the same order; then element by element 62
unfoldable pub checks : Widths → List ℕ → Found
checks w s = first (rules 60 61 60 w s) or_else first (each (element_rules w s) (count w s))
