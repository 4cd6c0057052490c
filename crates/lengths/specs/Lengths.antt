-- A value by its first bytes: how long its own encoding is (document 02, f; VariantEncoding.md, "Value encoding"). s is the bytes that begin
-- with the value; a byte that is not there reads as 0. Assumes nothing.
use Rattle.std.specs.Prelude.{Bool, true, false, cond, ◌||◌, List, [], ◌∷◌, ℕ, ◌+◌, eqb, ltb, length, drop, get_or, Option, Some, None, Result, Ok, Err}
use Rattle.width.specs.Width.{le}
use Rattle.rules.specs.Rules.{Rule, Found, first}
use Rattle.rules.specs.Rules.Found.{pass, stop}
use Rattle.rules.specs.Rules.Rule.{◌⇒◌at◌}
use Rattle.rules.specs.Rules.Test.{◌<?◌, ◌≤?◌, is, ◌and◌}
use Rattle.width.specs.Limits.{u32_max}
use Rattle.layout.specs.Layout as layout
use Rattle.layout.specs.declared.Flaw.{Flaw as LayoutFlaw}
use Rattle.layout.specs.declared.Flaw.TheVariants as lower
use Rattle.encoding.specs.declared.Header.{Header}
use Rattle.encoding.specs.declared.Header.TheVariants as header
use Rattle.encoding.specs.Encoding.{header_of}
use Rattle.lengths.specs.declared.Flaw.{Flaw}
use Rattle.lengths.specs.declared.Flaw.TheVariants.{Cut, Sum, Unknown, Longer}

-- PRIMITIVES

-- bytes after the header byte, by type: 21 of them
abbrev pub payloads : List ℕ
payloads = 0 ∷ 0 ∷ 0 ∷ 1 ∷ 2 ∷ 4 ∷ 8 ∷ 8 ∷ 5 ∷ 9 ∷ 17 ∷ 4 ∷ 8 ∷ 8 ∷ 4 ∷ 4 ∷ 4 ∷ 8 ∷ 8 ∷ 8 ∷ 16 ∷ []

unfoldable pub payload : ℕ → ℕ
payload t = get_or payloads t 0

-- of types 15 and 16 these four bytes are a length, and so many more follow
unfoldable pub holds_length : ℕ → Bool
holds_length t = eqb t 15 || eqb t 16

unfoldable pub held : ℕ → List ℕ → ℕ
held t s = cond (holds_length t) (le 4 (drop 1 s)) 0

-- where the type alone says a primitive's bytes, so many; an unknown type does not, nor does one that holds its length
unfoldable pub fixed_length : ℕ → Option ℕ
fixed_length t = cond (ltb 20 t || holds_length t) None (Some (1 + payload t))

-- THE OWN LENGTH

unfoldable pub bytes_by : Header → List ℕ → ℕ
bytes_by (header.Primitive t) s = 1 + payload t + held t s
bytes_by (header.ShortString n) s = 1 + n
bytes_by (header.Object w) s = layout.end w s
bytes_by (header.List w) s = layout.end w s

-- The checks, in order. The numbers stand for the cases: 1 a cut header, 2 a sum above the u32 range, 3 an unknown type, 4 longer than the bytes
abbrev pub end_rules : (len n : ℕ) → List Rule
end_rules len n =
    (u32_max <? n ⇒ 2 at 0)
    ∷ (len <? n ⇒ 4 at 0)
    ∷ []

unfoldable pub length_rules : Header → List ℕ → List Rule
length_rules (header.Primitive t) s =
    (length payloads ≤? t ⇒ 3 at 0)
    ∷ (is (holds_length t) and length s <? 5 ⇒ 1 at 0)
    ∷ end_rules (length s) (1 + payload t + held t s)
length_rules (header.ShortString n) s = end_rules (length s) (1 + n)
length_rules (header.Object w) s = layout.rules 1 2 4 w s
length_rules (header.List w) s = layout.rules 1 2 4 w s

-- what a table comes to, by cases
abbrev pub flaw_of : ℕ → Flaw
flaw_of c = cond (eqb c 1) Cut (cond (eqb c 2) Sum (cond (eqb c 3) Unknown Longer))

unfoldable pub case_of : Found → ℕ → Result ℕ Flaw
case_of pass n = Ok n
case_of (stop c p) n = Err (flaw_of c)

-- a layout's flaw is the value's
abbrev pub of_layout : LayoutFlaw → Flaw
of_layout lower.Cut = Cut
of_layout lower.Sum = Sum
of_layout lower.Longer = Longer

unfoldable pub length_by : Header → List ℕ → Result ℕ Flaw
length_by h s = case_of (first (length_rules h s)) (bytes_by h s)

unfoldable pub own_length : List ℕ → Result ℕ Flaw
own_length [] = Err Cut
own_length (b ∷ s) = length_by (header_of b) (b ∷ s)

-- whether it is known, and its bytes: none of any other
abbrev pub is_known : Result ℕ Flaw → Bool
is_known (Ok n) = true
is_known (Err f) = false

abbrev pub bytes_of : Result ℕ Flaw → ℕ
bytes_of (Ok n) = n
bytes_of (Err f) = 0
