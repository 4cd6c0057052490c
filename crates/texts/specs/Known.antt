-- A range of a whole that is known to be text, and what it answers of strings that stand in the whole. Assumes nothing.
use Rattle.std.specs.Prelude.{◌≡◌, Bool, true, false, List, ℕ, ◌≤◌, ◌<◌, length, get_or, Option, Some, None}
use Rattle.part.specs.declared.Span.{Span}
use Rattle.part.specs.Part.{part}
use Rattle.leads.specs.Table.{Cont}
use Rattle.chars.specs.Rfc3629.{Text}

pub record KnownOf (w : List ℕ) (t : Span) : Type 0 where
  pub rises : t.start ≤ t.end
  pub inside : t.end ≤ length w
  pub is_text : Text (part w t.start t.end)

-- a bool that says whether bytes are text
pub record Tells (s : List ℕ) (r : Bool) : Type 0 where
  pub if_so : r ≡ true → Text s
  pub if_not : r ≡ false → Text s → ⊥

-- what the bytes from i to j are, and the range that is known after that
abbrev pub JudgedOf : (w : List ℕ) (i j : ℕ) → Option Span → Type 0
JudgedOf w i j (Some t) = Text (part w i j) × KnownOf w t
JudgedOf w i j None = Text (part w i j) → ⊥

-- no character is cut at i, in a text that ends at `end`
abbrev pub Starts : List ℕ → ℕ → ℕ → Type 0
Starts w end i = i < end → Cont (get_or w i 0) → ⊥
