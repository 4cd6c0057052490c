-- `many::write_rows` meets its contract: the loop keeps the rows before k, and after them the words as they were. Assumes nothing.
use Rattle.rules.proofs.Prelude.{◌≡◌, refl, ap, ◌∙◌, List, ◌++◌, ℕ, ◌+◌, ◌-◌, ◌*◌, ◌≤◌, arith, length, drop, get_or, each, sets}
use Rattle.rules.proofs.Rows.{rows_none}
use Rattle.part.specs.Part.{part}
use Rattle.run.specs.Run.{begin as begin_of, name}
use Rattle.run.proofs.Means.{next}
use Rattle.spots.specs.Steps.{SpotsOf, Ahead}
use Rattle.spots.specs.declared.Four.{Four}
use Rattle.rows.specs.Rows.{row_of}
use Rattle.many.specs.Many.{row}
use Rattle.many.proofs.Rows.{in_layer, answers, one_more}
use Rattle.many.proofs.write_rows.Statement.{statement}
use Rattle.many.proofs.write_rows.Tie as tie

-- what the next name finds before it
onwards : (d o names ends : List ℕ) (k : ℕ) {t r : Four} → SpotsOf d o names ends k t → (r.first ≡ t.second) × (r.second ≡ t.third) × (r.third ≡ t.fourth)
    → Ahead d o names ends (k + 1) r
onwards d o names ends k s e = record {
  this = λ p u. rw e.0 (s.next (omega arith) u);
  next = λ p q u. let is : k + 1 + 1 ≡ k + 2 = omega arith in rw (is, e.1) (s.third (omega arith) (omega arith));
  third = λ p u. let is : k + 1 + 2 ≡ k + 3 = omega arith in rw (is, e.2) (s.fourth (omega arith) (omega arith));
}

abbrev invariant_loop : tie.invariant-loop-k
invariant_loop dict h object l names ends words₀ begin₀ at₀ ahead₀ k₀ k_end words begin at ahead k =
    (words ≡ each (row dict object names ends) k ++ drop at words₀) × (at ≡ 5 * k) × (k ≤ k_end) × (begin ≡ begin_of ends k)
    × (length words ≡ length words₀) × Ahead dict object names ends k ahead

abbrev decreases_loop : tie.decreases-loop-k
decreases_loop dict h object l names ends words₀ begin₀ at₀ ahead₀ k₀ k_end words begin at ahead k = k_end - k

pub write_rows_spec : {M : Type 1} → statement M
unfolding begin_of name
write_rows_spec =
    tie.close
    (tie.spec
    invariant_loop
    decreases_loop
    (λ c. (rows_none _ _, omega arith, omega arith, refl, refl, record { this = λ p. absurd (omega arith); next = λ p. absurd (omega arith); third = λ p. absurd (omega arith) }))  -- loop-holds
    (λ c κs. let s = c in
    let l = c.loop-k in
    (s.requires.0, s.requires.1, record { is_name = omega arith; begins = l.invariant.3 }, l.invariant.5))  -- spots-requires
    (λ c. omega (arith, c.loop-k-test.true, c.well_formed)) (λ c. omega arith)
    (λ c. omega (arith, c.shared_slice_known-in-loop-k-1.given c.loop-k.k))  -- cast-end
    (λ c. let l = c.loop-k in
    omega (arith, (c.requires.1 l.k (omega arith)).rises, l.invariant.3))  -- sub-settle
    (λ c. let l = c.loop-k in
    omega (arith, (c.requires.1 l.k (omega arith)).rises, l.invariant.3))  -- part-settle-start
    (λ c. let l = c.loop-k in omega (arith, (c.requires.1 l.k (omega arith)).inside))  -- part-settle-end
    (λ c κs. let l = c.loop-k in (
      c.requires.0,
      rw (← l.invariant.3) at
          c.spots-four.ensures.this,
    ))  -- settle-requires
    (λ c κs. let m = c.requires.0 in
    (m.layered, in_layer _ _ _ m.passes _ c.settle-found.ensures))  -- row-of-requires
    (λ c κs. let s = c in
    let i = c.loop-k.invariant in omega (arith, s.requires.2, i.1, i.2, i.4))  -- write-row-requires
    (λ c κs. tt)  -- onward-requires
    (λ c. let s = c in
    let i = c.loop-k.invariant in omega (arith, s.requires.2, i.1, i.2, s.well_formed))  -- add-at
    (λ c. let t = c in
    omega (arith, t.loop-k-test.true, t.well_formed))  -- add-k
    (λ c. omega (arith, c.loop-k-test.true))  -- loop-less
    (λ c. let s = c in
    let l = c.loop-k in
    let a = s.args in
    let q = part a.names.now l.begin (get_or a.ends.now l.k 0) in
    let answer = c.row_of.ensures ∙ ap row_of (answers _ _ q s.requires.0.passes c.settle-found.ensures) in
    let room : l.at + 5 ≤ length a.words.now = omega (arith, s.requires.2, l.invariant.1, c.loop-k-test.true) in
    let rows = one_more a.dict.now a.object.now a.names.now a.ends.now _ l.k l.at q l.invariant.0 l.invariant.1 room (rw l.invariant.3) in (
      c.write_row.ensures ∙ ap (sets _ _) answer ∙ rows,
      omega (arith, l.invariant.1),
      omega (arith, c.loop-k-test.true),
      next a.ends.now l.k,
      omega (arith, c.words-1.given, l.invariant.4),
      onwards _ _ _ _ _ c.spots-four.ensures c.onward-ahead.ensures,
    ))  -- loop-again
    (λ c. c.loop-k.invariant.4)  -- same-length
    (λ c. let l = c.loop-k in
    let n = length c.args.ends.now in
    let all : l.k ≡ n = omega (arith, l.invariant.2) in
    let words : l.at ≡ 5 * n = omega (arith, l.invariant.1) in
    rw (all, words) at l.invariant.0))  -- returns
