-- Bytes added after a list whose header passes change nothing of its checks. Assumes nothing.
use Rattle.rules.proofs.Prelude.{◌≡◌, sym, ◌∙◌, List, ◌++◌, ℕ, ◌+◌, ◌≤◌, ◌<◌, arith, length, Passed, each_same}
use Rattle.layout.specs.declared.Widths.{Widths}
use Rattle.layout.specs.Layout.{count, start, rules}
use Rattle.layout.proofs.Appended as layout
use Rattle.list.specs.List.{element_rules, checks}
use Rattle.list.proofs.Laws.{by_elements}

module _ (w : Widths) (s u : List ℕ) (p : Passed (rules 0 0 0 w s)) where
  counted : 1 + w.count ≤ length s
  counted = omega arith

  placed : start w s ≤ length s
  placed = omega arith

  element_same : (k : ℕ) → k < count w s → element_rules w (s ++ u) k ≡ element_rules w s k
  unfolding element_rules
  element_same k h =
      let same = layout.offset_same w s u placed in
      rw (layout.count_same w s u counted, same k (omega arith), same (k + 1) (omega arith), same (count w s) (omega arith))

  -- THE THEOREM
  pub checks_same : checks w (s ++ u) ≡ checks w s
  checks_same =
      by_elements w (s ++ u) (layout.passed_again w s u p)
      ∙ rw (layout.count_same w s u counted, each_same (element_rules w (s ++ u)) (element_rules w s) (count w s) element_same) (sym (by_elements w s p))
