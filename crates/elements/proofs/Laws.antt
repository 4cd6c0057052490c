-- By which table the answer to one index is settled. Assumes nothing.
use Rattle.rules.proofs.Prelude.{◌≡◌, sym, ◌∙◌, List, [], ◌∷◌, ℕ, ◌+◌, ◌≤◌, ◌<◌, first, accept, gives, refuse, pass, stop, ◌&◌}
use Rattle.rules.proofs.Prelude.{stops, goes, first_pass, refused, answered, lt-ltb, le-ltb}
use Rattle.layout.specs.declared.Widths.{Widths}
use Rattle.layout.specs.Layout.{count, child_start}
use Rattle.part.specs.declared.Span.{Span}
use Rattle.list.specs.List as list
use Rattle.list.specs.Steps.{ElementOf}
use Rattle.elements.specs.Element.{head_rules, checks, element}
use Rattle.elements.specs.Promises.{Lead}

-- past the head, the list's own checks
pub list_checks_law : (v : List ℕ) (w : Widths) → Lead v w → checks v ≡ list.checks w v
unfolding checks
list_checks_law v w l = goes _ (first_pass (head_rules v) (l.not_long & l.not_empty & l.is_list & tt)) ∙ rw l.widths_are

module _ (v : List ℕ) (n : ℕ) where
  pub is_refused : {c p : ℕ} → checks v ≡ stop c p → element v n ≡ refuse c p
  unfolding element
  is_refused e = refused _ e

  pub by_head : {c p : ℕ} → first (head_rules v) ≡ stop c p → element v n ≡ refuse c p
  unfolding checks
  by_head e = is_refused (stops _ e)

  module _ (w : Widths) (l : Lead v w) where
    pub by_list : {c p : ℕ} → list.checks w v ≡ stop c p → element v n ≡ refuse c p
    by_list e = is_refused (list_checks_law v w l ∙ e)

    module _ (e : list.checks w v ≡ pass) where
      pub is_absent : count w v ≤ n → element v n ≡ gives 1 [] 0
      unfolding element
      is_absent h = answered _ (list_checks_law v w l ∙ e) ∙ rw (← l.widths_are, le-ltb n (count w v) h)

      pub is_found : n < count w v → element v n ≡ accept (n ∷ 0 ∷ child_start w v n ∷ child_start w v (n + 1) ∷ [])
      unfolding element
      is_found h = answered _ (list_checks_law v w l ∙ e) ∙ rw (← l.widths_are, lt-ltb n (count w v) h)

      -- what is told of its place
      pub found_so : n < count w v → {r : Span} → ElementOf w v n r → accept (n ∷ 0 ∷ r.start ∷ r.end ∷ []) ≡ element v n
      found_so h span = rw (span.start_is, span.end_is) (sym (is_found h))
