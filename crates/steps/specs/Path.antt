-- A path and its steps (document 02, i; utils.rs: parse_path): `site.meter[2]` is the name site, the name meter, the index 2.
-- Refusals are the answers of the same definition. Assumes nothing.
use Rattle.std.specs.Prelude.{Bool, false, cond, ◌||◌, List, [], ◌∷◌, ℕ, zero, suc, eqb, take, Option, None, Some}
use Rattle.brackets.specs.Brackets.{closes, content, quoted, unquoted, number}

pub data Step : Type 0 where
  named : List ℕ → Step
  indexed : ℕ → Step

-- what a byte starts: a refusal, or a step and how many of the bytes after that byte are of it
pub data Next : Type 0 where
  wrong : ℕ → Next
  takes : Step → ℕ → Next

pub data Parsed : Type 0 where
  refused : ℕ → Parsed
  steps : List Step → Parsed

-- A NAME runs to the next . [ or ]

abbrev pub ends : ℕ → Bool
ends b = eqb b 46 || (eqb b 91 || eqb b 93)

unfoldable pub plain : List ℕ → ℕ
plain [] = 0
plain (b ∷ s) = cond (ends b) 0 (suc (plain s))

-- what stands in brackets that take n bytes after the opening one

abbrev pub numbered : ℕ → Option ℕ → Next
numbered n None = wrong 75
numbered n (Some k) = takes (indexed k) n

abbrev pub element : ℕ → List ℕ → Next
element n t = cond (quoted t) (takes (named (unquoted t)) n) (numbered n (number t))

abbrev pub closed : ℕ → List ℕ → Next
closed zero t = wrong 74
closed (suc n) t = element (suc n) t

unfoldable pub bracket : List ℕ → Next
bracket s = closed (closes false s) (content false s)

-- A STEP starts with a dot and a name, with a bracket, or with a name

unfoldable pub dotted : List ℕ → Next
dotted [] = wrong 72
dotted (c ∷ s) = cond (ends c) (wrong 73) (takes (named (c ∷ take (plain s) s)) (suc (plain s)))

unfoldable pub next : ℕ → List ℕ → Next
next b s =
    cond (eqb b 46) (dotted s)
    (cond (eqb b 91) (bracket s)
    (cond (eqb b 93) (wrong 73) (takes (named (b ∷ take (plain s) s)) (plain s))))

-- A PATH is steps one after another

abbrev pub add : Step → Parsed → Parsed
add x (refused code) = refused code
add x (steps xs) = steps (x ∷ xs)

abbrev pub follow : Next → (ℕ → Parsed) → Parsed
follow (wrong code) rest = refused code
follow (takes x n) rest = add x (rest n)

-- `left` bytes of the step at hand are still to be passed
unfoldable pub parse : (left : ℕ) → List ℕ → Parsed
parse left [] = steps []
parse zero (b ∷ s) = follow (next b s) (λ n. parse n s)
parse (suc left) (b ∷ s) = parse left s
