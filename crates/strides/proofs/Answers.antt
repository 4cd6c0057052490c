-- What a single lookup can answer: something found, with four values, or an answer without any. Assumes nothing.
use Rattle.rules.proofs.Prelude.{List, [], ◌∷◌, ℕ, Found, pass, stop, Answer, accept, gives, ◌otherwise◌}
use Rattle.dictionary.specs.Dictionary as dictionary
use Rattle.lookup.proofs.Finds as lookup
use Rattle.elements.specs.Element.{element}
use Rattle.elements.proofs.Means as elements
use Rattle.steps.specs.Path.{Step}
use Rattle.steps.specs.Path.Step.{named, indexed}
use Rattle.strides.specs.Stride.{single}

-- WHAT IS SO OF BOTH IS SO OF THE ANSWER
pub by_single : (d v : List ℕ) (x : Step) (P : Answer → Type 0) → ((k i a e : ℕ) → P (accept (k ∷ i ∷ a ∷ e ∷ []))) → ((c p : ℕ) → P (gives c [] p)) → P (single d v x)
unfolding ◌otherwise◌
by_single d v (named q) P found none = lookup.by_answer d v q P (λ k i a e _. found k i a e) (λ _. none 1 0) (λ c p _. none c p)
by_single d v (indexed n) P found none = go (dictionary.checks d)
  where
    go : (f : Found) → P (f otherwise element v n)
    go pass = elements.by_answer v n P (λ a e _. found n 0 a e) (λ _. none 1 0) (λ c p _. none c p)
    go (stop c p) = none c p
