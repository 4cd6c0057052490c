-- A leaf, a primitive or a short string: its checks in their order (document 02, h). s is the bytes that begin with it. Assumes nothing.
use Rattle.std.specs.Prelude.{Bool, true, false, List, [], ◌∷◌, ℕ, eqb, length, get_or, Result, Ok, Err}
use Rattle.part.specs.Part.{part}
use Rattle.chars.specs.Rfc3629.{text_up_to}
use Rattle.rules.specs.Rules.{Rule, Found, first, ◌or_else◌}
use Rattle.rules.specs.Rules.Found.{pass, stop}
use Rattle.rules.specs.Rules.Rule.{◌⇒◌at◌}
use Rattle.rules.specs.Rules.Test.{◌<?◌, is, ◌and◌}
use Rattle.encoding.specs.declared.Header.{Header}
use Rattle.encoding.specs.declared.Header.TheVariants as header
use Rattle.lengths.specs.declared.Flaw.{Flaw}
use Rattle.lengths.specs.declared.Flaw.TheVariants.{Cut, Sum, Unknown, Longer}
use Rattle.encoding.specs.Encoding.{header_of}
use Rattle.lengths.specs.Lengths.{own_length, bytes_of}

-- what a value's first byte says; of no bytes, what 0 does
abbrev pub head_of : List ℕ → Header
head_of s = header_of (get_or s 0 0)

-- neither an object nor a list
abbrev pub IsLeaf : Header → Type 0
IsLeaf (header.Primitive t) = Unit {0}
IsLeaf (header.ShortString n) = Unit {0}
IsLeaf (header.Object w) = ⊥
IsLeaf (header.List w) = ⊥

-- 51 for an unknown primitive type, 50 for all else that has no own length within its bytes and the u32 range; no bytes are such
unfoldable pub length_found : Result ℕ Flaw → Found
length_found (Ok n) = pass
length_found (Err Cut) = stop 50 0
length_found (Err Sum) = stop 50 0
length_found (Err Unknown) = stop 51 0
length_found (Err Longer) = stop 50 0

-- a string has type 16, or is short. Type 15 is bytes, which are not judged
unfoldable pub is_string : Header → Bool
is_string (header.Primitive t) = eqb t 16
is_string (header.ShortString n) = true
is_string (header.Object w) = false
is_string (header.List w) = false

-- its text starts after the length of four bytes, or after the header byte
unfoldable pub text_start : Header → ℕ
text_start (header.Primitive t) = 5
text_start (header.ShortString n) = 1
text_start (header.Object w) = 0
text_start (header.List w) = 0

-- and runs to the value's own length
unfoldable pub text : Header → List ℕ → List ℕ
text h s = part s (text_start h) (bytes_of (own_length s))

-- 54 for a string whose text is not UTF-8
unfoldable pub text_rules : Header → List ℕ → List Rule
text_rules h s = (is (is_string h) and text_up_to (text h s) <? length (text h s) ⇒ 54 at 0) ∷ []

unfoldable pub leaf : List ℕ → Found
leaf s = length_found (own_length s) or_else first (text_rules (header_of (get_or s 0 0)) s)
