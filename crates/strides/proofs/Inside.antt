-- What a step finds lies in the value that is stepped into. Assumes nothing.
use Rattle.rules.proofs.Prelude.{Bool, true, false, cond, eqb, List, ℕ, ◌≤◌, arith, length}
use Rattle.rules.proofs.Prelude.{Found, pass, stop, Answer, gives, refuse, ◌otherwise◌}
use Rattle.dictionary.specs.Dictionary as dictionary
use Rattle.lookup.specs.ByName.{lookup, start_of, end_of}
use Rattle.lookup.proofs.Finds as lookup
use Rattle.elements.specs.Element.{element}
use Rattle.elements.proofs.Means as elements
use Rattle.steps.specs.Path.{Step}
use Rattle.steps.specs.Path.Step.{named, indexed}
use Rattle.strides.specs.Stride.{single, as_step, stride}

-- the places of an answer lie in v
abbrev pub Within : List ℕ → Answer → Type 0
Within v r = (start_of r ≤ end_of r) × (end_of r ≤ length v)

pub element_inside : (v : List ℕ) (n : ℕ) → Within v (element v n)
element_inside v n = elements.by_answer v n (Within v) (elements.inside v n) (λ _. omega arith) (λ c p _. omega arith)

pub single_inside : (d v : List ℕ) (x : Step) → Within v (single d v x)
unfolding ◌otherwise◌
single_inside d v (named q) = lookup.child_inside d v q
single_inside d v (indexed n) = go (dictionary.checks d)
  where
    go : (f : Found) → Within v (f otherwise element v n)
    go pass = element_inside v n
    go (stop c p) = omega arith

as_a_step : (v : List ℕ) (number : ℕ) (r : Answer) → Within v r → Within v (as_step number r)
as_a_step v number (gives code values place) h = go (eqb code 22)
  where
    go : (u : Bool) → Within v (cond u (refuse 53 number) (gives code values place))
    go true = omega arith
    go false = h

pub stride_inside : (d v : List ℕ) (number : ℕ) (x : Step) → Within v (stride d v number x)
unfolding stride
stride_inside d v number x = as_a_step v number (single d v x) (single_inside d v x)
