-- Asking by path (document 02, i): the single lookups, one after another. d is the dictionary's bytes, v the whole value's. Assumes nothing.
use Rattle.std.specs.Prelude.{List, [], ◌∷◌, ℕ, suc, ◌+◌, length, get_or}
use Rattle.part.specs.Part.{part}
use Rattle.rules.specs.Rules.{Answer, accept, refuse, ◌otherwise◌}
use Rattle.rules.specs.Rules.Answer.{gives}
use Rattle.dictionary.specs.Dictionary as dictionary
use Rattle.steps.specs.Path.{Step, Parsed}
use Rattle.steps.specs.Path.Parsed.{refused, steps}
use Rattle.parsing.specs.Parsing.{answer}
use Rattle.lookup.specs.declared.Found.{Found as Spot}
use Rattle.strides.specs.Stride.{stride}

-- the whole value, where no step was taken yet: from 0 to its length, whatever it is
abbrev pub whole : List ℕ → Spot
whole v = record { field = 0; id = 0; start = 0; end = length v }

-- the bytes that are handed down
abbrev pub handed : List ℕ → Spot → List ℕ
handed v at = part v at.start at.end

-- what a step found in the bytes that start at a, said from the whole's first byte
abbrev pub spot_of : (a : ℕ) (values : List ℕ) → Spot
spot_of a values = record { field = get_or values 0 0; id = get_or values 1 0; start = a + get_or values 2 0; end = a + get_or values 3 0 }

-- only what is found has values; absence and a refusal are the answer as they stand
abbrev pub onward : (a : ℕ) → Answer → (Spot → Answer) → Answer
onward a (gives code [] place) next = gives code [] place
onward a (gives code (k ∷ values) place) next = next (spot_of a (k ∷ values))

-- where no step is left
abbrev pub arrival : Spot → Answer
arrival at = accept (at.field ∷ at.id ∷ at.start ∷ at.end ∷ [])

-- ONE STEP AFTER ANOTHER, from step `number` on; `at` is what the step before found
unfoldable pub walk : (d v : List ℕ) (number : ℕ) → Spot → List Step → Answer
walk d v number at [] = arrival at
walk d v number at (x ∷ xs) = onward at.start (stride d (handed v at) number x) (λ next. walk d v (suc number) next xs)

-- the dictionary first
unfoldable pub asked : (d v : List ℕ) → List Step → Answer
asked d v xs = dictionary.checks d otherwise walk d v 0 (whole v) xs

-- BY PATH: its own refusals come before all others, with place 0
abbrev pub by_parsed : (d v : List ℕ) → Parsed → Answer
by_parsed d v (refused code) = refuse code 0
by_parsed d v (steps xs) = asked d v xs

unfoldable pub by_path : (d v path names words : List ℕ) → Answer
by_path d v path names words = by_parsed d v (answer path names words)
