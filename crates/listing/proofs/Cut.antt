-- An accepted dictionary cut anywhere before its trimmed end makes the listing answer 11 or 13 at place 0, an accepted object cut likewise 21
-- or 23; and the words stay as they were lent. Assumes nothing.
use Rattle.rules.proofs.Prelude.{◌≡◌, ⊎_elim, List, [], ◌∷◌, ℕ, ◌<◌, take, accept, StopsAs, RefusedAs, stops_first, refused_as}
use Rattle.dictionary.specs.Dictionary as dictionary
use Rattle.layer.specs.Object.{checks, verdict}
use Rattle.object.proofs.Cut.{dictionary_stopped, object_stopped}
use Rattle.listing.specs.Words.{list_checks_within, listed, listed_within, words_after, words_after_within}

after : {a b : ℕ} (d o w : List ℕ) → StopsAs a b (checks d o) → RefusedAs a b (listed d o w) × (words_after d o w ≡ w)
unfolding listed_within words_after_within list_checks_within
after d o w s =
    let stops = stops_first s _ in (refused_as stops _, ⊎_elim (λ e. rw e) (λ e. rw e) stops)

module _ (d o w : List ℕ) (m : ℕ) where
  pub dictionary_cut : (n e : ℕ) → dictionary.verdict d ≡ accept (n ∷ e ∷ []) → m < e
      → RefusedAs 11 13 (listed (take m d) o w) × (words_after (take m d) o w ≡ w)
  dictionary_cut n e accepted cut = after (take m d) o w (dictionary_stopped d o n e m accepted cut)

  pub object_cut : (n v e : ℕ) → verdict d o ≡ accept (n ∷ v ∷ e ∷ []) → m < e
      → RefusedAs 21 23 (listed d (take m o) w) × (words_after d (take m o) w ≡ w)
  object_cut n v e accepted cut = after d (take m o) w (object_stopped d o n v e m accepted cut)
