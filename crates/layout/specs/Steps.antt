-- What the reader of a layout and its steps answer, in the words of Layout.antt. Assumes nothing.
use Rattle.std.specs.Prelude.{◌≡◌, List, ℕ, ◌≤◌, Result, Ok, Err}
use Rattle.rules.specs.Rules.{first, Passed}
use Rattle.rules.specs.Rules.Found.{stop}
use Rattle.layout.specs.declared.Widths.{Widths}
use Rattle.layout.specs.declared.Numbers.{Numbers}
use Rattle.layout.specs.declared.Places.{Places}
use Rattle.layout.specs.declared.Flaw.{Flaw}
use Rattle.layout.specs.declared.Flaw.TheVariants.{Cut, Sum, Longer}
use Rattle.layout.specs.Layout.{count, offsets_start, start, end, rules}

-- widths that a header byte can say
pub record Few (w : Widths) : Type 0 where
  pub count_some : 1 ≤ w.count
  pub count_few : w.count ≤ 4
  pub id_few : w.id ≤ 4
  pub offset_some : 1 ≤ w.offset
  pub offset_few : w.offset ≤ 4

-- the count, and where the offsets and the region start
pub record PlacesOf (s : List ℕ) (w : Widths) (p : Places) : Type 0 where
  pub count_is : p.count ≡ count w s
  pub offsets_is : p.offsets ≡ offsets_start w s
  pub start_is : p.start ≡ start w s

-- the numbers of a layout whose checks passed, whichever numbers its refusals have
pub record NumbersOf (s : List ℕ) (w : Widths) (l : Numbers) : Type 0 where
  pub passes : Passed (rules 0 0 0 w s)
  pub count_is : l.count ≡ count w s
  pub offsets_is : l.offsets ≡ offsets_start w s
  pub start_is : l.start ≡ start w s
  pub end_is : l.end ≡ end w s
  pub rises : l.start ≤ l.end

-- each refusal is that of the table, whichever numbers it has
abbrev pub HeadOf : List ℕ → Widths → Result Numbers Flaw → Type 0
HeadOf s w (Err Cut) = (cut sum longer : ℕ) → first (rules cut sum longer w s) ≡ stop cut 0
HeadOf s w (Err Sum) = (cut sum longer : ℕ) → first (rules cut sum longer w s) ≡ stop sum 0
HeadOf s w (Err Longer) = (cut sum longer : ℕ) → first (rules cut sum longer w s) ≡ stop longer 0
HeadOf s w (Ok l) = NumbersOf s w l
