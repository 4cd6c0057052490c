-- What the limit decides (document 02, request d): an object over a dictionary, both within two limits, gets the same answer under both; past a
-- limit the answer is 20, where the dictionary is accepted. `check`'s own promise is the one under `limit`. Assumes nothing.
use Rattle.rules.proofs.Prelude.{◌≡◌, sym, ◌∙◌, List, ℕ, ◌≤◌, ◌<◌, le-ltb, length, refuse, first, pass, stop, first_at, stops, goes, refused}
use Rattle.dictionary.specs.Dictionary as dictionary
use Rattle.metadata.proofs.Raised as dictionary-raised
use Rattle.layer.specs.Object.{head_rules_within, checks_within, verdict_within}
use Rattle.std.specs.Prelude.{Result}
use Rattle.layer.specs.declared.Refusal.{Refusal}
use Rattle.object.specs.declared.Accepted.{Accepted}
use Rattle.object.specs.Answers.{verdict_numbers}
use Rattle.object.proofs.Pinned.{verdict_injective}

abbrev pub Within : ℕ → List ℕ → List ℕ → Type 0
Within most d o = (length d ≤ most) × (length o ≤ most)

-- TWO LIMITS, and a dictionary and an object within both
module _ (a b : ℕ) (d o : List ℕ) (in-a : Within a d o) (in_b : Within b d o) where
  head_alike : first (head_rules_within a o) ≡ first (head_rules_within b o)
  unfolding first
  head_alike = rw (le-ltb a (length o) in-a.1, le-ltb b (length o) in_b.1)

  pub checks_alike : checks_within a d o ≡ checks_within b d o
  unfolding checks_within
  checks_alike = rw (dictionary-raised.checks_alike a b d in-a.0 in_b.0, head_alike)

  pub verdict_alike : verdict_within a d o ≡ verdict_within b d o
  unfolding verdict_within
  verdict_alike = rw checks_alike

  -- the answer of the call
  pub check_alike : (r q : Result Accepted Refusal) → verdict_numbers r ≡ verdict_within a d o → verdict_numbers q ≡ verdict_within b d o → r ≡ q
  check_alike r q x y = verdict_injective r q (x ∙ verdict_alike ∙ sym y)

-- PAST A LIMIT
module _ (most : ℕ) (d o : List ℕ) (over : dictionary.checks_within most d ≡ pass) (past : most < length o) where
  pub checks_past : checks_within most d o ≡ stop 20 0
  unfolding checks_within
  checks_past = goes _ over ∙ stops _ (first_at 0 (head_rules_within most o) past)

  pub verdict_past : verdict_within most d o ≡ refuse 20 0
  unfolding verdict_within
  verdict_past = refused _ checks_past
