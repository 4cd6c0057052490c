-- What the steps of the list's check answer each other, and where an element stands. Assumes nothing.
use Rattle.std.specs.Prelude.{◌≡◌, List, ℕ, ◌+◌, ◌≤◌, Result, Ok, Err, ⊤}
use Rattle.rules.specs.Rules.{Found}
use Rattle.rules.specs.Rules.Found.{pass, stop}
use Rattle.layout.specs.declared.Widths.{Widths}
use Rattle.layout.specs.declared.Numbers.{Numbers}
use Rattle.layout.specs.Layout.{child_start, end}
use Rattle.layout.specs.Steps.{Few, NumbersOf}
use Rattle.list.specs.declared.Refusal.{Refusal}
use Rattle.part.specs.declared.Span.{Span}
use Rattle.list.specs.List.{checks}
use Rattle.list.specs.Answers.{refusal_number, refusal_place}

abbrev pub stop_of : Refusal → Found
stop_of r = stop (refusal_number r) (refusal_place r)

abbrev pub found_of : Result ⊤ Refusal → Found
found_of (Err r) = stop_of r
found_of (Ok _) = pass

-- the numbers of a list whose checks passed
pub record Opened (w : Widths) (s : List ℕ) (l : Numbers) : Type 0 where
  pub few : Few w
  pub numbers : NumbersOf s w l
  pub passes : checks w s ≡ pass

-- all checks
abbrev pub CheckedOf : Widths → List ℕ → Result Numbers Refusal → Type 0
CheckedOf w s (Err r) = checks w s ≡ stop_of r
CheckedOf w s (Ok l) = Opened w s l

-- where element k stands, counted from the list's first byte
pub record ElementOf (w : Widths) (s : List ℕ) (k : ℕ) (r : Span) : Type 0 where
  pub start_is : r.start ≡ child_start w s k
  pub end_is : r.end ≡ child_start w s (k + 1)
  pub rises : r.start ≤ r.end
  pub inside : r.end ≤ end w s
