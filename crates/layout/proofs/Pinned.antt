-- The reader's promise fixes its whole answer: two answers that meet it are equal. The refusals are told apart by giving them three numbers.
-- Assumes nothing.
use Rattle.rules.proofs.Prelude.{◌≡◌, sym, ap, ◌∙◌, cond, List, ℕ, arith, eqb, Found, first, pass, stop, first_pass}
use Rattle.std.specs.Prelude.{Result, Ok, Err}
use Rattle.layout.specs.declared.Widths.{Widths}
use Rattle.layout.specs.declared.Numbers.{Numbers}
use Rattle.layout.specs.declared.Flaw.{Flaw}
use Rattle.layout.specs.declared.Flaw.TheVariants.{Cut, Sum, Longer}
use Rattle.layout.specs.Layout.{count, offsets_start, start, end, rules}
use Rattle.layout.specs.Steps.{NumbersOf, HeadOf}

module _ (w : Widths) (s : List ℕ) where
  -- the one answer that the table and the numbers make
  numbers : Numbers
  numbers = record { count = count w s; offsets = offsets_start w s; start = start w s; end = end w s }

  told : Found → Result Numbers Flaw
  told pass = Ok numbers
  told (stop c p) = Err (cond (eqb c 1) Cut (cond (eqb c 2) Sum Longer))

  numbers_is : (l : Numbers) → NumbersOf s w l → numbers ≡ l
  unfolding numbers
  numbers_is l h = rw (← h.count_is, ← h.offsets_is, ← h.start_is, ← h.end_is)

  read_is : (r : Result Numbers Flaw) → HeadOf s w r → told (first (rules 1 2 3 w s)) ≡ r
  unfolding told
  read_is (Err Cut) h = rw (h 1 2 3)
  read_is (Err Sum) h = rw (h 1 2 3)
  read_is (Err Longer) h = rw (h 1 2 3)
  read_is (Ok l) h = rw (first_pass (rules 1 2 3 w s) (omega (arith, h.passes))) (ap Ok (numbers_is l h))

  pub read_pinned : (r q : Result Numbers Flaw) → HeadOf s w r → HeadOf s w q → r ≡ q
  read_pinned r q a b = sym (read_is r a) ∙ read_is q b
