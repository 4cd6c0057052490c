-- An accepted dictionary cut anywhere before its trimmed end makes the lookup answer 11 or 13 at place 0, an accepted object cut likewise 21 or
-- 23; and the child is then the empty part at the object's start. Assumes nothing.
use Rattle.rules.proofs.Prelude.{◌≡◌, refl, ⊎_elim, List, [], ◌∷◌, ℕ, ◌<◌, take, Answer, accept, RefusedAs, refused_as}
use Rattle.dictionary.specs.Dictionary as dictionary
use Rattle.layer.specs.Object.{verdict}
use Rattle.object.proofs.Cut.{dictionary_stopped, object_stopped}
use Rattle.lookup.specs.ByName.{lookup, lookup_within, start_of, end_of}

-- the empty part at the object's start
abbrev pub AtStart : Answer → Type 0
AtStart answer = (start_of answer ≡ 0) × (end_of answer ≡ 0)

at_start : {a b : ℕ} (answer : Answer) → RefusedAs a b answer → AtStart answer
at_start answer r = ⊎_elim (λ e. rw e (refl, refl)) (λ e. rw e (refl, refl)) r

module _ (d o q : List ℕ) (m : ℕ) where
  module _ (n e : ℕ) (accepted : dictionary.verdict d ≡ accept (n ∷ e ∷ [])) (cut : m < e) where
    pub dictionary_cut : RefusedAs 11 13 (lookup (take m d) o q)
    unfolding lookup_within
    dictionary_cut = refused_as (dictionary_stopped d o n e m accepted cut) _

    pub child_of_cut_dictionary : AtStart (lookup (take m d) o q)
    child_of_cut_dictionary = at_start _ dictionary_cut

  module _ (n v e : ℕ) (accepted : verdict d o ≡ accept (n ∷ v ∷ e ∷ [])) (cut : m < e) where
    pub object_cut : RefusedAs 21 23 (lookup d (take m o) q)
    unfolding lookup_within
    object_cut = refused_as (object_stopped d o n v e m accepted cut) _

    pub child_of_cut_object : AtStart (lookup d (take m o) q)
    child_of_cut_object = at_start _ object_cut
