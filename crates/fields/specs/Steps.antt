-- What the steps of the fields' checks go by. Assumes nothing.
use Rattle.std.specs.Prelude.{List, ℕ, ◌≤◌, length, Ok}
use Rattle.part.specs.declared.Span.{Span}
use Rattle.metadata.specs.Steps as dictionary
use Rattle.dictionary.specs.declared.Header.{Header}

-- h is of a dictionary that passed its checks
abbrev pub Over : List ℕ → Header → Type 0
Over d h = dictionary.CheckedOf d (Ok h)

-- a range of the dictionary's bytes
pub record Within (d : List ℕ) (s : Span) : Type 0 where
  pub rises : s.start ≤ s.end
  pub inside : s.end ≤ length d
