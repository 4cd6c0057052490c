-- Where the numbers of a layout stand. Assumes nothing.
use Rattle.rules.proofs.Prelude.{◌≡◌, refl, ◌∙◌, List, ℕ, ◌+◌, ◌-◌, ◌*◌, ◌≤◌, ◌<◌, arith, mul-le-mul_left, mul-le-mul_right, drop}
use Rattle.width.specs.Width.{le}
use Rattle.layout.specs.declared.Widths.{Widths}
use Rattle.layout.specs.Layout.{count, offsets_start, offset, start, end}

module _ (w : Widths) (s : List ℕ) where
  -- in their order
  pub count_before : 1 + w.count ≤ offsets_start w s
  unfolding offsets_start
  count_before = omega arith

  pub offsets_before : offsets_start w s + w.offset ≤ start w s
  unfolding start
  offsets_before = omega (arith, mul-le-mul_left {m = 1} {n = count w s + 1} w.offset (omega arith))

  pub start_before : start w s ≤ end w s
  unfolding end
  start_before = omega arith

  pub end_is : end w s ≡ start w s + offset w s (count w s)
  unfolding end
  end_is = refl

  -- there are fewer children than bytes before the region
  pub count_below : 1 ≤ w.offset → count w s < start w s
  unfolding start
  count_below some = omega (arith, mul-le-mul_right {m = 1} {n = w.offset} (count w s + 1) some)

  -- the header holds offset k
  pub offset_inside : (k : ℕ) → k ≤ count w s → offsets_start w s + w.offset * k + w.offset ≤ start w s
  unfolding start
  offset_inside k h = omega (arith, mul-le-mul_left w.offset h)

  -- the last offset stands just before the region
  pub last_is : {r : ℕ} (v : ℕ) → v ≡ start w s → r ≡ le w.offset (drop (v - w.offset) s) → r ≡ offset w s (count w s)
  unfolding start offset
  last_is v q e =
      let at : start w s - w.offset ≡ offsets_start w s + w.offset * count w s = omega arith in
      e ∙ rw (q, at)
