-- Where the ends are good, an accepted dictionary cut anywhere before its trimmed end makes the answer of many names 11 or 13 at place 0, an
-- accepted object cut likewise 21 or 23; and the words stay as they were lent. Assumes nothing.
use Rattle.rules.proofs.Prelude.{◌≡◌, ⊎_elim, List, [], ◌∷◌, ℕ, ◌<◌, take, accept, StopsAs, RefusedAs, stops_first, stops_next, refused_as}
use Rattle.run.specs.Meaning.{GoodEnds}
use Rattle.run.proofs.Means.{good}
use Rattle.dictionary.specs.Dictionary as dictionary
use Rattle.layer.specs.Object.{checks, verdict}
use Rattle.object.proofs.Cut.{dictionary_stopped, object_stopped}
use Rattle.many.specs.Many.{many_checks_within, lookups, lookups_within, rows_after, rows_after_within}

module _ (names ends words : List ℕ) (ends-good : GoodEnds names ends) where
  after : {a b : ℕ} (d o : List ℕ) → StopsAs a b (checks d o) → RefusedAs a b (lookups d o names ends words) × (rows_after d o names ends words ≡ words)
  unfolding lookups_within rows_after_within many_checks_within
  after d o s =
      let stops = stops_next ((good names ends).1 ends-good) (stops_first s _) in (refused_as stops _, ⊎_elim (λ e. rw e) (λ e. rw e) stops)

  module _ (d o : List ℕ) (m : ℕ) where
    pub dictionary_cut : (n e : ℕ) → dictionary.verdict d ≡ accept (n ∷ e ∷ []) → m < e
        → RefusedAs 11 13 (lookups (take m d) o names ends words) × (rows_after (take m d) o names ends words ≡ words)
    dictionary_cut n e accepted cut = after (take m d) o (dictionary_stopped d o n e m accepted cut)

    pub object_cut : (n v e : ℕ) → verdict d o ≡ accept (n ∷ v ∷ e ∷ []) → m < e
        → RefusedAs 21 23 (lookups d (take m o) names ends words) × (rows_after d (take m o) names ends words ≡ words)
    object_cut n v e accepted cut = after d (take m o) (object_stopped d o n v e m accepted cut)
