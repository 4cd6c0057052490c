-- How many bytes of a dictionary are wanted before its verdict can settle (document 02, l): the first byte, the count, the offsets, the region,
-- each told by the bytes that are there. Assumes nothing.
use Rattle.std.specs.Prelude.{◌≡◌, List, [], ◌∷◌, ℕ, ◌+◌, length}
use Rattle.rules.specs.Rules.{Rule, Found, first}
use Rattle.rules.specs.Rules.Found.{pass, stop}
use Rattle.rules.specs.Rules.Rule.{◌⇒◌at◌}
use Rattle.rules.specs.Rules.Test.{◌<?◌, ◌≠?◌}
use Rattle.width.specs.Limits.{u32_max}
use Rattle.dictionary.specs.Limits.{limit}
use Rattle.dictionary.specs.Dictionary.{version, width, offset, start, end}

-- THE HEADER'S CHECKS, IN ORDER, and in place of a place how many bytes each asks for: 0 where more bytes lift nothing
abbrev pub wanted_rules : List ℕ → List Rule
wanted_rules d =
    (limit <? length d ⇒ 10 at 0)
    ∷ (length d <? 1 ⇒ 11 at 1)
    ∷ (version d ≠? 1 ⇒ 12 at 0)
    ∷ (length d <? 1 + width d ⇒ 13 at 1 + width d)
    ∷ (u32_max <? start d ⇒ 14 at 0)
    ∷ (length d <? start d ⇒ 13 at start d)
    ∷ (offset d 0 ≠? 0 ⇒ 15 at 0)
    ∷ (u32_max <? end d ⇒ 14 at 0)
    ∷ (length d <? end d ⇒ 13 at end d)
    ∷ []

abbrev pub asked : Found → ℕ
asked pass = 0
asked (stop code bytes) = bytes

unfoldable pub wanted : List ℕ → ℕ
wanted d = asked (first (wanted_rules d))

abbrev pub WantedPromise : List ℕ → ℕ → Type 0
WantedPromise d r = r ≡ wanted d
