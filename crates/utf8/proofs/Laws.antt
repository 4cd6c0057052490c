-- What the check's loop stops by. Assumes nothing.
use mathlib.Core.Path.{◌≡◌}
use mathlib.Core.List.{List}
use Prim.Native.Nat.{ℕ}
use lib.ListN.{drop}
use Rattle.walk.proofs.Laws.{up_to_end}
use Rattle.chars.specs.Rfc3629.{Char, char, text_up_to}
use Rattle.chars.proofs.Laws.{chars}
use Rattle.plain.specs.Steps.{Reached}

-- What a loop over a text goes by: it stops where no character starts.
pub text_stop : (s : List ℕ) (i : ℕ) → Reached s i → char (drop i s) ≡ 0 → i ≡ text_up_to s
unfolding text_up_to
text_stop s i r q = up_to_end Char char chars s i r.1 q
