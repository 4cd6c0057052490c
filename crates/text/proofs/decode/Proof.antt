-- `text::decode` meets its contract: what is left makes the same of the room as the whole. Assumes nothing.
use mathlib.Core.Path.{◌≡◌, refl}
use Prim.Native.Nat.{◌+◌, ◌-◌, ◌*◌, ◌/◌, ◌≤◌}
use native.Mathlib.Numerals.{add-one}
use native.Mathlib.Omega.{arith}
use borrow.Author.Rules.{rules}
use lib.ListN.{length, drop, length-set}
use lib.Seq.{sets}
use Rattle.text.specs.Text.{pairs}
use Rattle.text.proofs.Laws.{is_digit, pairs_length, pairs_end, pairs_more}
use Rattle.text.proofs.decode.Statement.{statement}
use Rattle.text.proofs.decode.Tie as tie

abbrev invariant_loop : tie.invariant-loop-n
invariant_loop text out₀ count n₀ out n =
    (sets out n (pairs (drop (2 * n) text)) ≡ sets out₀ 0 (pairs text)) × (length out ≡ length out₀) × (n ≤ count) × (count ≡ length text / 2)

abbrev decreases_loop : tie.decreases-loop-n
decreases_loop text out₀ count n₀ out n = count - n

pub decode_spec : {M : Type 1} → statement M
decode_spec =
    tie.close
    (tie.spec
    invariant_loop
    decreases_loop
    (λ c. (refl, refl, omega arith, refl))  -- loop-holds
    (λ c. search rules)  -- mul-digit
    (λ c. search rules)  -- shared-slice-read-digit
    (λ c κs. search rules)  -- digit-requires
    (λ c. let s = c in
    omega (arith, is_digit s.args.text.now s.requires.0 (2 * c.loop-n.n) (omega arith)))  -- mul-out
    (λ c. search rules)  -- mul-digit-2
    (λ c. search rules)  -- add-digit
    (λ c. search rules)  -- shared-slice-read-digit-2
    (λ c κs. search rules)  -- digit-requires-2
    (λ c. let s = c in
    let n = c.loop-n.n in
    omega (arith, is_digit s.args.text.now s.requires.0 (2 * n) (omega arith), is_digit s.args.text.now s.requires.0 (2 * n + 1) (omega arith)))  -- add-out
    (λ c. search rules)  -- slice-write-out
    (λ c. search rules)  -- add-n
    (λ c. search rules)  -- loop-less
    (λ c. let l = c in
    let n = l.loop-n.n in
    let more = pairs_more l.args.text.now n (omega arith) in
    let written = rw (more, add-one n) at l.loop-n.invariant.0 in
    (rw (c.digit.ensures.0, c.digit-in-loop-n.ensures.0, add-one n) written, simp length-set (omega arith), omega arith, l.loop-n.invariant.3))  -- loop-again
    (λ c. search rules)  -- same-length
    (λ c. let l = c in
    let s = l.args.text.now in
    (omega (arith, pairs_length s), rw (pairs_end s l.loop-n.n (omega arith)) at l.loop-n.invariant.0)))  -- returns
