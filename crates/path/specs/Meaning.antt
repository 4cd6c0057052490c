-- What the answer to a path says, in the words of document 02, i): from step to step. proofs/Means.antt shows that `walk` and `by_path` of
-- Path.antt say the same. Assumes nothing.
use Rattle.std.specs.Prelude.{◌≡◌, List, [], ◌∷◌, ℕ, suc}
use Rattle.rules.specs.Rules.{Answer, refuse}
use Rattle.dictionary.specs.Dictionary.{count, end}
use Rattle.dictionary.specs.Meaning as dictionary
use Rattle.layer.specs.Meaning as object
use Rattle.lookup.specs.ByName.{absent}
use Rattle.lookup.specs.Meaning as lookup
use Rattle.elements.specs.Meaning as list
use Rattle.steps.specs.Path.{Step}
use Rattle.steps.specs.Path.Step.{named, indexed}
use Rattle.parsing.specs.Meaning as parsing
use Rattle.lookup.specs.declared.Found.{Found as Spot}
use Rattle.path.specs.Path.{whole, handed, spot_of, arrival}

-- WHERE A WALK ENDS that has come to `at` by step n
pub data Ends (d v : List ℕ) : (n : ℕ) → Spot → List Step → Answer → Type 0 where
  -- no step is left
  arrived : {n : ℕ} {at : Spot} → Ends d v n at [] (arrival at)
  -- the step finds its name in the object, or its index in the list, and the next goes on from there
  by_name : {n k i a e : ℕ} {at : Spot} {q : List ℕ} {xs : List Step} {r : Answer} → lookup.Found d (handed v at) q k i a e
      → Ends d v (suc n) (spot_of at.start (k ∷ i ∷ a ∷ e ∷ [])) xs r → Ends d v n at (named q ∷ xs) r
  by_index : {n m a e : ℕ} {at : Spot} {xs : List Step} {r : Answer} → list.Found (handed v at) m a e
      → Ends d v (suc n) (spot_of at.start (m ∷ 0 ∷ a ∷ e ∷ [])) xs r → Ends d v n at (indexed m ∷ xs) r
  -- it finds nothing
  no_name : {n : ℕ} {at : Spot} {q : List ℕ} {xs : List Step} → lookup.Absent d (handed v at) q → Ends d v n at (named q ∷ xs) absent
  no_index : {n m : ℕ} {at : Spot} {xs : List Step} → list.Absent (handed v at) m → Ends d v n at (indexed m ∷ xs) absent
  -- it is of another kind: 53 with the step's number
  no_object : {n p : ℕ} {at : Spot} {q : List ℕ} {xs : List Step} → object.Refusal d (handed v at) 22 p → Ends d v n at (named q ∷ xs) (refuse 53 n)
  no_list : {n m p : ℕ} {at : Spot} {xs : List Step} → list.Refusal (handed v at) 22 p → Ends d v n at (indexed m ∷ xs) (refuse 53 n)
  -- or the layer is refused, with its number and its place in that layer
  bad_object : {n c p : ℕ} {at : Spot} {q : List ℕ} {xs : List Step} → object.Refusal d (handed v at) c p → (c ≡ 22 → ⊥)
      → Ends d v n at (named q ∷ xs) (refuse c p)
  bad_list : {n m c p : ℕ} {at : Spot} {xs : List Step} → list.Refusal (handed v at) c p → (c ≡ 22 → ⊥) → Ends d v n at (indexed m ∷ xs) (refuse c p)

-- WHAT THE ANSWER SAYS: the path is refused; or it spells steps that have room, and the dictionary is refused, or the walk by them ends so
pub data Says (d v path names words : List ℕ) : Answer → Type 0 where
  bad_path : {c : ℕ} → parsing.Refusal path names words c → Says d v path names words (refuse c 0)
  bad_dictionary : {c p : ℕ} {xs : List Step} → parsing.Accepted path names words xs → dictionary.Refusal d c p → Says d v path names words (refuse c p)
  walked : {xs : List Step} {r : Answer} → parsing.Accepted path names words xs → dictionary.Dictionary d (count d) (end d)
      → Ends d v 0 (whole v) xs r → Says d v path names words r
