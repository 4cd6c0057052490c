-- What the steps of the header's check answer each other, in the words of Dictionary.antt. Assumes nothing.
use Rattle.std.specs.Prelude.{◌≡◌, List, ℕ, ◌≤◌, Result, Ok, Err}
use Rattle.rules.specs.Rules.{Found, first, Passed}
use Rattle.rules.specs.Rules.Found.{stop}
use Rattle.utf8.specs.declared.Flaw.{Flaw}
use Rattle.utf8.specs.declared.Flaw.TheVariants.{Cut, Broken}
use Rattle.dictionary.specs.declared.Refusal.{Refusal}
use Rattle.dictionary.specs.declared.Refusal.TheVariants.{NotUtf8, CutText}
use Rattle.dictionary.specs.declared.Header.{Header}
use Rattle.dictionary.specs.declared.Lead.{Lead}
use Rattle.dictionary.specs.declared.Places.{Places}
use Rattle.dictionary.specs.Dictionary.{version, sorted, width, count, start, end, head_rules}
use Rattle.dictionary.specs.Answers.{refusal_number, refusal_place}

abbrev pub stop_of : Refusal → Found
stop_of r = stop (refusal_number r) (refusal_place r)

-- what is wrong with the region's text
abbrev pub of_text : Flaw → Refusal
of_text (Cut p) = CutText p
of_text (Broken p) = NotUtf8 p

-- byte 0
pub record LeadOf (d : List ℕ) (l : Lead) : Type 0 where
  pub version_is : l.version ≡ version d
  pub sorted_is : l.sorted ≡ sorted d
  pub width_is : l.width ≡ width d
  pub some : 1 ≤ l.width
  pub few : l.width ≤ 4

-- the count, and where the region starts
pub record PlacesOf (d : List ℕ) (p : Places) : Type 0 where
  pub count_is : p.count ≡ count d
  pub start_is : p.start ≡ start d

-- the numbers of a header whose checks passed
pub record HeaderOf (d : List ℕ) (h : Header) : Type 0 where
  pub passes : Passed (head_rules d)
  pub width_is : h.width ≡ width d
  pub some : 1 ≤ h.width
  pub few : h.width ≤ 4
  pub sorted_is : h.sorted ≡ sorted d
  pub count_is : h.count ≡ count d
  pub start_is : h.start ≡ start d
  pub end_is : h.end ≡ end d
  pub rises : h.start ≤ h.end

abbrev pub HeadOf : List ℕ → Result Header Refusal → Type 0
HeadOf d (Err r) = first (head_rules d) ≡ stop_of r
HeadOf d (Ok h) = HeaderOf d h
