-- What the public call promises of its answer: its `ensures` cites this, and so does Pinned. Assumes nothing.
use Rattle.std.specs.Prelude.{◌≡◌, List, ℕ, Result, ⊤}
use Rattle.utf8.specs.declared.Flaw.{Flaw}
use Rattle.utf8.specs.Utf8.{verdict}

-- a text; or cut, or broken, and the length of the longest well-formed prefix
abbrev pub CheckPromise : List ℕ → Result ⊤ Flaw → Type 0
CheckPromise s r = r ≡ verdict s
