-- What the dictionary's check and the place of a name answer the calls above, in the words of dictionary/specs/Dictionary.antt. Assumes nothing.
use Rattle.std.specs.Prelude.{◌≡◌, List, ℕ, ◌+◌, ◌≤◌, length, Result, Ok, Err}
use Rattle.part.specs.Part.{part}
use Rattle.rules.specs.Rules.Found.{pass}
use Rattle.dictionary.specs.declared.Refusal.{Refusal}
use Rattle.dictionary.specs.declared.Header.{Header}
use Rattle.dictionary.specs.Dictionary.{offset, start, name, checks}
use Rattle.dictionary.specs.Steps.{stop_of, HeaderOf}
use Rattle.part.specs.declared.Span.{Span}

-- all checks
abbrev pub CheckedOf : List ℕ → Result Header Refusal → Type 0
CheckedOf d (Err r) = checks d ≡ stop_of r
CheckedOf d (Ok h) = HeaderOf d h × (checks d ≡ pass)

-- where the name of entry i stands
pub record SpanOf (d : List ℕ) (i : ℕ) (r : Span) : Type 0 where
  pub start_is : r.start ≡ start d + offset d i
  pub end_is : r.end ≡ start d + offset d (i + 1)
  pub rises : r.start ≤ r.end
  pub inside : r.end ≤ length d
  pub name_is : part d r.start r.end ≡ name d i
