-- What the steps of the check promise each other, in the words of Rfc3629.antt. Assumes nothing.
use Rattle.std.specs.Prelude.{◌≡◌, List, ℕ, ◌+◌, ◌≤◌, ◌<◌, length, drop, get_or}
use Rattle.chars.specs.Rfc3629.{text_up_to}

-- the check has come to i: a text stands before i, and what is left decides how far it goes on
abbrev pub Reached : List ℕ → ℕ → Type 0
Reached s i = (i ≤ length s) × (text_up_to s ≡ i + text_up_to (drop i s))

-- of the bytes from i up to j none is above m
abbrev pub AtMost : List ℕ → ℕ → ℕ → ℕ → Type 0
AtMost s i j m = (k : ℕ) → i ≤ k → k < j → get_or s k 0 ≤ m
