-- A search that is narrowed from above: from some field on, all come after the query. Assumes nothing.
use Rattle.rules.proofs.Prelude.{List, ℕ, arith}
use Rattle.names.proofs.Search.{Between}
use Rattle.layer.specs.Object.{count, field_name}
use Rattle.lookup.specs.Steps.{AllAbove}

module _ (d o q : List ℕ) where
  -- no field is known to come after it, or all from there on
  pub none_above : AllAbove d o q (count o)
  none_above k p r = absurd (omega arith)

  pub between : (from : ℕ) → AllAbove d o q from → Between (field_name d o) q (count o) 0 from
  between from above = record { below = λ k p. absurd (omega arith); above = above }
