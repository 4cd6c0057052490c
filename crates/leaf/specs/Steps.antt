-- What the leaf's check answers, and which range of the whole is known to be text after it. Assumes nothing.
use Rattle.std.specs.Prelude.{◌≡◌, Bool, true, List, ℕ, Result, Ok, Err}
use Rattle.part.specs.Part.{part}
use Rattle.chars.specs.Rfc3629.{Text}
use Rattle.rules.specs.Rules.Found.{pass, stop}
use Rattle.texts.specs.Known.{KnownOf}
use Rattle.part.specs.declared.Span.{Span}
use Rattle.leaf.specs.declared.Refusal.{Refusal}
use Rattle.leaf.specs.Leaf.{head_of, IsLeaf, leaf}
use Rattle.leaf.specs.Answers.{refusal_number}

-- of the text from i to j of the whole w
abbrev pub TextOf : (w : List ℕ) (i j : ℕ) → Result Span Refusal → Type 0
TextOf w i j (Err r) = (refusal_number r ≡ 54) × (Text (part w i j) → ⊥)
TextOf w i j (Ok t) = Text (part w i j) × KnownOf w t

-- of the leaf from a to e of the whole w
abbrev pub LeafOf : (w : List ℕ) (a e : ℕ) → Result Span Refusal → Type 0
LeafOf w a e (Err r) = leaf (part w a e) ≡ stop (refusal_number r) 0
LeafOf w a e (Ok t) = (leaf (part w a e) ≡ pass) × KnownOf w t

-- yes is said of good leaves only; what is not said to be small may be one, too
abbrev pub SmallOf : (w : List ℕ) (a e : ℕ) → Bool → Type 0
SmallOf w a e r = r ≡ true → IsLeaf (head_of (part w a e)) × (leaf (part w a e) ≡ pass)
