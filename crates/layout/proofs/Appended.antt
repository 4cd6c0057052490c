-- Bytes added after a layout move no number whose bytes are there, and lift no refusal but those of a cut header and of a region longer than
-- the bytes. Assumes nothing.
use Rattle.rules.proofs.Prelude.{◌≡◌, Bool, true, false, List, ◌++◌, ℕ, ◌+◌, ◌*◌, ◌≤◌, arith, length, length-append, Kept, Passed, ◌&◌}
use Rattle.width.proofs.Laws.{le_append_at}
use Rattle.layout.specs.declared.Widths.{Widths}
use Rattle.layout.specs.Layout.{count, offsets_start, offset, start, end, rules}
use Rattle.layout.proofs.Laws.{count_before, offsets_before, start_before, offset_inside}

module _ (w : Widths) (s u : List ℕ) where
  -- EACH NUMBER STAYS where the bytes that hold it are there
  module _ (h : 1 + w.count ≤ length s) where
    pub count_same : count w (s ++ u) ≡ count w s
    unfolding count
    count_same = le_append_at w.count 1 s u h

    pub offsets_same : offsets_start w (s ++ u) ≡ offsets_start w s
    unfolding offsets_start
    offsets_same = rw count_same

    pub start_same : start w (s ++ u) ≡ start w s
    unfolding start
    start_same = rw (offsets_same, count_same)

  module _ (h : start w s ≤ length s) where
    counted : 1 + w.count ≤ length s
    counted = omega (arith, count_before w s, offsets_before w s)

    pub offset_same : (k : ℕ) → k ≤ count w s → offset w (s ++ u) k ≡ offset w s k
    unfolding offset
    offset_same k p =
        rw (offsets_same counted, le_append_at w.offset (offsets_start w s + w.offset * k) s u (omega (arith, offset_inside w s k p)))

    pub end_same : end w (s ++ u) ≡ end w s
    unfolding end
    end_same = rw (count_same counted, start_same counted, offset_same (count w s) (omega arith))

  -- THE CHECKS, one by one
  pub rules_kept : (lifted : ℕ → Bool) (cut sum longer : ℕ) → lifted cut ≡ true → lifted sum ≡ false → lifted longer ≡ true
      → Kept lifted (rules cut sum longer w s) (rules cut sum longer w (s ++ u))
  rules_kept lifted cut sum longer is_cut is_sum is-longer =
      let more = length-append s u in
      rw (is_cut, is_sum, is-longer)
      (omega arith & λ counted.
      let a = offsets_same counted in
      let b = start_same counted in
      omega arith & λ f. omega arith & λ g. omega arith & λ placed. let e = end_same placed in omega arith & λ h. omega arith & λ i. tt)

  -- a layout that passes does so again
  pub passed_again : Passed (rules 0 0 0 w s) → Passed (rules 0 0 0 w (s ++ u))
  passed_again p =
      let counted : 1 + w.count ≤ length s = omega arith in
      let placed : start w s ≤ length s = omega arith in
      omega (arith, length-append s u, offsets_same counted, start_same counted, end_same placed)

  -- a layout that ends within the bytes before passes without those after
  pub rules_shrink : Passed (rules 0 0 0 w (s ++ u)) → end w (s ++ u) ≤ length s → Passed (rules 0 0 0 w s) × (end w (s ++ u) ≡ end w s)
  rules_shrink p inside =
      let rises = start_before w (s ++ u) in
      let counted : 1 + w.count ≤ length s = omega (arith, count_before w (s ++ u), offsets_before w (s ++ u)) in
      let a = offsets_same counted in
      let b = start_same counted in
      let c = end_same (omega arith) in (omega arith, c)
