-- What a list of bytes is to the check (document 01, "16"; document 02, b): a text, or cut, or broken. Assumes nothing.
use Rattle.std.specs.Prelude.{Bool, cond, List, ℕ, ltb, length, drop, Result, Ok, Err, ⊤}
use Rattle.chars.specs.Rfc3629.{Text, Begins, LongestText, text_up_to, begins}
use Rattle.utf8.specs.declared.Flaw.{Flaw}
use Rattle.utf8.specs.declared.Flaw.TheVariants.{Cut, Broken}

-- WHAT A LIST IS: a text; or cut, what is left after its longest well-formed prefix being a proper beginning; or broken, it being none.
pub data Judged (s : List ℕ) : Result ⊤ Flaw → Type 0 where
  whole : Text s → Judged s (Ok tt)
  cut : {p : ℕ} → LongestText s p → Begins (drop p s) → Judged s (Err (Cut p))
  broken : {p : ℕ} → LongestText s p → (Begins (drop p s) → ⊥) → Judged s (Err (Broken p))

-- THE SAME AS FUNCTIONS.

-- whether a list is cut
unfoldable pub is_cut : List ℕ → Bool
is_cut s = begins (drop (text_up_to s) s)

unfoldable pub verdict : List ℕ → Result ⊤ Flaw
verdict s = cond (is_cut s) (Err (Cut (text_up_to s))) (cond (ltb (text_up_to s) (length s)) (Err (Broken (text_up_to s))) (Ok tt))
