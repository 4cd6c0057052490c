-- `utf8::valid_len` meets its contract: the loop goes from character to character, and stops where none starts. Assumes nothing.
use mathlib.Core.Path.{sym, ◌∙◌}
use Prim.Native.Nat.{◌-◌}
use native.Mathlib.Omega.{arith}
use borrow.Author.Rules.{rules}
use lib.ListN.{length}
use Rattle.chars.proofs.Laws.{char_end}
use Rattle.plain.specs.Steps.{Reached}
use Rattle.plain.proofs.Laws.{text_go}
use Rattle.utf8.proofs.Laws.{text_stop}
use Rattle.utf8.proofs.valid_len.Statement.{statement}
use Rattle.utf8.proofs.valid_len.Tie as tie

abbrev invariant_loop : tie.invariant-loop-at
invariant_loop s at₀ at = Reached s at

abbrev decreases_loop : tie.decreases-loop-at
decreases_loop s at₀ at = length s - at

pub valid_len_spec : {M : Type 1} → statement M
valid_len_spec =
    tie.close
    (tie.spec
    invariant_loop
    decreases_loop
    (λ c κs. tt)
    (λ c. c.begin-at.ensures)  -- loop-holds
    (λ c κs. tt)
    (λ c. let h = c in
    text_stop h.args.s.now h.loop-at.at h.loop-at.invariant (sym c.char_at-n.ensures ∙ search rules))  -- returns
    (λ c. omega (arith, text_go _ _ _ c.loop-at.invariant c.char_at-n.ensures (search rules)))
    (λ c. omega (arith, text_go _ _ _ c.loop-at.invariant c.char_at-n.ensures (search rules)))
    (λ c. text_go _ _ _ c.loop-at.invariant c.char_at-n.ensures (search rules))  -- loop-again
    (λ c. let h = c in let s = h.args.s.now in
    text_stop s h.loop-at.at h.loop-at.invariant (char_end h.loop-at.at s (omega arith))))  -- returns-2
