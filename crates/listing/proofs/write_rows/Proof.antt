-- `listing::write_rows` meets its contract: the loop keeps the rows before k, and after them the words as they were. Assumes nothing.
use Rattle.rules.proofs.Prelude.{◌≡◌, ◌∙◌, ap, refl, List, ℕ, ◌++◌, ◌+◌, ◌-◌, ◌*◌, ◌≤◌, arith, length, drop, length-set}
use Rattle.rules.proofs.Rows.{rows_none}
use Rattle.width.specs.Limits.{u32_max}
use Rattle.lengths.specs.Lengths.{bytes_of}
use Rattle.layer.specs.declared.Layer.{Layer}
use Rattle.layer.specs.Object.{count as count_of}
use Rattle.listing.specs.Words.{span, rows}
use Rattle.listing.proofs.Laws.{span_inside}
use Rattle.listing.proofs.Rows.{turn}
use Rattle.listing.proofs.write_rows.Statement.{statement}
use Rattle.listing.proofs.write_rows.Tie as tie

abbrev invariant_loop : tie.invariant-loop-k
invariant_loop object l words₀ fields at₀ k₀ words at k = (words ≡ rows object k ++ drop at words₀) × (at ≡ 3 * k) × (k ≤ fields) × (length words ≡ length words₀)

abbrev decreases_loop : tie.decreases-loop-k
decreases_loop object l words₀ fields at₀ k₀ words at k = fields - k

module _ (c : tie.After-id_at invariant_loop decreases_loop) where
  abbrev object : List ℕ
  object = c.args.object.now

  abbrev layer : Layer
  layer = c.args.l

  abbrev field : ℕ
  field = c.loop-k.k

  -- the span is the child's own length
  span_is : c.bytes_of-span.result ≡ span object field
  unfolding span
  span_is = c.bytes_of-span.ensures ∙ ap bytes_of c.own_length.ensures

  -- a child and its span end before the trimmed end
  inside : layer.start + c.offset_at-offset.result + c.bytes_of-span.result ≤ layer.end
  inside = let s = c in omega (arith, span_inside object field (s.requires.1 field (omega arith)) (omega arith), span_is)

pub write_rows_spec : {M : Type 1} → statement M
unfolding u32_max
write_rows_spec =
    tie.close
    (tie.spec
    invariant_loop
    decreases_loop
    (λ c. (rows_none _ _, omega arith, omega arith, refl))  -- loop-holds
    (λ c κs. omega arith)  -- offset-at-requires
    (λ c κs. let s = c in (s.requires.0, omega arith, s.requires.1 _ (omega arith)))  -- own-length-requires
    (λ c κs. tt)  -- bytes-of-requires
    (λ c κs. omega arith)  -- id-at-requires
    (λ c. omega arith) (λ c. omega arith) (λ c. omega arith)
    (λ c. omega (arith, inside c.before))  -- add-words
    (λ c. omega (arith, inside c.before))  -- cast-words-2
    (λ c. omega arith) (λ c. omega arith)
    (λ c. simp length-set (omega arith))  -- slice-write-words-2
    (λ c. omega (arith, inside c.before))  -- cast-words-3
    (λ c. omega arith) (λ c. omega arith)
    (λ c. simp length-set (omega arith))  -- slice-write-words-3
    (λ c. omega arith) (λ c. omega arith) (λ c. omega arith)
    (λ c. let l = c.loop-k in
    let s = c in (
      turn s.args.object.now _ l.words l.k l.at l.invariant.0 l.invariant.1 c.id_at.ensures.0 (omega arith) (span_is c.before) (omega arith),
      omega arith,
      omega arith,
      simp length-set l.invariant.3,
    ))  -- loop-again
    (λ c. c.loop-k.invariant.3)  -- same-length
    (λ c. let l = c.loop-k in
    let n = count_of c.args.object.now in
    let all : l.k ≡ n = omega arith in
    let words : l.at ≡ 3 * n = omega arith in
    rw (all, words) at l.invariant.0))  -- returns
