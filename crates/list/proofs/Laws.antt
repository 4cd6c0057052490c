-- By which table the list's checks are settled, and what their passing says of the header and of each element. Assumes nothing.
use Rattle.rules.proofs.Prelude.{◌≡◌, List, ℕ, ◌≤◌, ◌<◌, dec_lt, arith, first, each, Passed, pass, stop, ◌&◌, passed, both_pass, stops, goes, first_pass, each_passed}
use Rattle.layout.specs.declared.Widths.{Widths}
use Rattle.std.specs.Prelude.{Err}
use Rattle.layout.specs.declared.Flaw.{Flaw}
use Rattle.layout.specs.declared.Flaw.TheVariants as flaw
use Rattle.layout.specs.Layout.{count, offset, rules}
use Rattle.layout.specs.Steps.{HeadOf}
use Rattle.list.specs.List.{element_rules, checks}
use Rattle.list.specs.Meaning.{InOrder}
use Rattle.list.specs.Answers.{of_layout}
use Rattle.list.specs.Steps.{stop_of}

module _ (w : Widths) (s : List ℕ) where
  -- THE CHECKS, BY WHERE THEY ARE SETTLED
  pub by_head : {c p : ℕ} → first (rules 60 61 60 w s) ≡ stop c p → checks w s ≡ stop c p
  unfolding checks
  by_head e = stops _ e

  pub by_flaw : (f : Flaw) → HeadOf s w (Err f) → checks w s ≡ stop_of (of_layout f)
  by_flaw flaw.Cut h = by_head (h 60 61 60)
  by_flaw flaw.Sum h = by_head (h 60 61 60)
  by_flaw flaw.Longer h = by_head (h 60 61 60)

  pub by_elements : Passed (rules 0 0 0 w s) → checks w s ≡ first (each (element_rules w s) (count w s))
  unfolding checks
  by_elements h = goes _ (first_pass (rules 60 61 60 w s) (omega (arith, h)))

  -- an element passes exactly where it is in order
  pub passed_order : (k : ℕ) → Passed (element_rules w s k) → InOrder w s k
  unfolding element_rules
  passed_order k h = record { rises = h.0; inside = h.1.0 }

  pub order_passed : (k : ℕ) → InOrder w s k → Passed (element_rules w s k)
  unfolding element_rules
  order_passed k i = i.rises & i.inside & tt

  -- WHAT PASSING SAYS
  module _ (e : checks w s ≡ pass) where
    -- of the header
    pub passes : Passed (rules 0 0 0 w s)
    unfolding checks
    passes = omega (arith, passed (rules 60 61 60 w s) (both_pass _ _ e).0)

    -- of each element
    pub rising : (k : ℕ) → k < count w s → InOrder w s k
    unfolding checks
    rising k p = passed_order k (each_passed (element_rules w s) (count w s) (both_pass _ _ e).1 k p)

    -- of each of the n + 1 offsets
    pub inside : (k : ℕ) → k ≤ count w s → offset w s k ≤ offset w s (count w s)
    inside k p = go (dec_lt k (count w s))
      where
        go : Dec (k < count w s) → offset w s k ≤ offset w s (count w s)
        go (yes q) = (rising k q).inside
        go (no q) = let z : k ≡ count w s = omega arith in rw z (omega arith)
