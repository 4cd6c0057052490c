-- A path and its steps, in words: what a step looks like, a path as steps one after another, and when each of the refusals 72 to 75 is due.
-- proofs/Means.antt shows that `parse` of Path.antt says the same. Assumes nothing.
use Rattle.std.specs.Prelude.{List, [], ◌∷◌, ◌++◌, ℕ, ◌<◌, length}
use Rattle.brackets.specs.Meaning.{Shut, Quoted, Numeral}
use Rattle.steps.specs.Path.{Step}
use Rattle.steps.specs.Path.Step.{named, indexed}

-- A PLAIN NAME is bytes, at least one, that are none of . [ ], and one of these follows it, or nothing
pub data Ending : ℕ → Type 0 where
  dot : Ending 46
  opening : Ending 91
  closing : Ending 93

pub data Plain : List ℕ → Type 0 where
  done : Plain []
  byte : {b : ℕ} {t : List ℕ} → (Ending b → ⊥) → Plain t → Plain (b ∷ t)

pub data Ends : List ℕ → Type 0 where
  nothing : Ends []
  ending : {b : ℕ} {rest : List ℕ} → Ending b → Ends (b ∷ rest)

pub record Name (t rest : List ℕ) : Type 0 where
  pub some : 0 < length t
  pub plain : Plain t
  pub ends : Ends rest

-- BRACKETS hold a quoted name or a number
pub data Holds : List ℕ → Step → Type 0 where
  name : {t n : List ℕ} → Quoted t n → Holds t (named n)
  index : {t : List ℕ} {n : ℕ} → Numeral t n → Holds t (indexed n)

-- A STEP, and what stands after it: a name, a dot and a name, or brackets
pub data Stands : List ℕ → Step → List ℕ → Type 0 where
  bare : {t rest : List ℕ} → Name t rest → Stands (t ++ rest) (named t) rest
  after_dot : {t rest : List ℕ} → Name t rest → Stands (46 ∷ t ++ rest) (named t) rest
  bracketed : {w t rest : List ℕ} {x : Step} → Shut w t rest → Holds t x → Stands (91 ∷ w) x rest

-- A PATH is steps one after another
pub data Spells : List ℕ → List Step → Type 0 where
  end : Spells [] []
  step : {w rest : List ℕ} {x : Step} {xs : List Step} → Stands w x rest → Spells rest xs → Spells w (x ∷ xs)

-- WHAT IS NO STEP: a dot at the end; a dot, and no name after it; a ] that closes nothing; a bracket that none closes; brackets that hold
-- neither a quoted name nor a number
pub data Wrong : List ℕ → ℕ → Type 0 where
  trailing_dot : Wrong (46 ∷ []) 72
  no_name : {b : ℕ} {s : List ℕ} → Ending b → Wrong (46 ∷ b ∷ s) 73
  closes_nothing : {s : List ℕ} → Wrong (93 ∷ s) 73
  unclosed : {w : List ℕ} → ((t rest : List ℕ) → Shut w t rest → ⊥) → Wrong (91 ∷ w) 74
  neither : {w t rest : List ℕ} → Shut w t rest → ((x : Step) → Holds t x → ⊥) → Wrong (91 ∷ w) 75

-- the first that is met, after steps
pub data Refused : List ℕ → ℕ → Type 0 where
  here : {w : List ℕ} {c : ℕ} → Wrong w c → Refused w c
  later : {w rest : List ℕ} {x : Step} {c : ℕ} → Stands w x rest → Refused rest c → Refused w c
