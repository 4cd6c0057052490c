-- What the limit decides (document 02, request d): a dictionary within two limits gets the same answers under both, by the definitions and by
-- whatever meets a promise under the one or the other; past a limit the answer is 10. A call's own promise is the one under `limit`: so a raise
-- changes nothing inside the old limit. Assumes nothing.
use Rattle.std.specs.Prelude.{Result, Option}
use Rattle.rules.proofs.Prelude.{◌≡◌, sym, ◌∙◌, List, ℕ, ◌≤◌, ◌<◌, arith, le-ltb, length, refuse, first, stop, first_at, stops, refused}
use Rattle.dictionary.specs.Limits.{limit}
use Rattle.dictionary.specs.Dictionary.{head_rules_within, checks_within, verdict_within, name_at_within}
use Rattle.part.specs.declared.Span.{Span}
use Rattle.dictionary.specs.declared.Refusal.{Refusal}
use Rattle.metadata.specs.declared.Accepted.{Accepted}
use Rattle.metadata.specs.Answers.{verdict_numbers, entry_numbers}
use Rattle.metadata.specs.Promises.{CheckPromise}
use Rattle.metadata.proofs.Pinned.{verdict_injective, entry_injective}

-- TWO LIMITS, and a dictionary within both
module _ (a b : ℕ) (d : List ℕ) (in-a : length d ≤ a) (in_b : length d ≤ b) where
  head_alike : first (head_rules_within a d) ≡ first (head_rules_within b d)
  unfolding first
  head_alike = rw (le-ltb a (length d) in-a, le-ltb b (length d) in_b)

  pub checks_alike : checks_within a d ≡ checks_within b d
  unfolding checks_within
  checks_alike = rw head_alike

  pub verdict_alike : verdict_within a d ≡ verdict_within b d
  unfolding verdict_within
  verdict_alike = rw checks_alike

  pub name_alike : (i : ℕ) → name_at_within a d i ≡ name_at_within b d i
  unfolding name_at_within
  name_alike i = rw checks_alike

  -- the answers of the calls
  pub check_alike : (r q : Result Accepted Refusal) → verdict_numbers r ≡ verdict_within a d → verdict_numbers q ≡ verdict_within b d → r ≡ q
  check_alike r q x y = verdict_injective r q (x ∙ verdict_alike ∙ sym y)

  pub get_alike : (i : ℕ) (r q : Result (Option Span) Refusal) → entry_numbers r ≡ name_at_within a d i → entry_numbers q ≡ name_at_within b d i → r ≡ q
  get_alike i r q x y = entry_injective r q (x ∙ name_alike i ∙ sym y)

-- THE RAISE: the base read up to 65,536 bytes
pub raised : 65536 ≤ limit
unfolding limit
raised = omega arith

pub check_as_before : (d : List ℕ) → length d ≤ 65536 → (was is : Result Accepted Refusal) → verdict_numbers was ≡ verdict_within 65536 d → CheckPromise d is → was ≡ is
check_as_before d inside = check_alike 65536 limit d inside (omega (arith, raised))

-- PAST A LIMIT
module _ (most : ℕ) (d : List ℕ) (past : most < length d) where
  pub checks_past : checks_within most d ≡ stop 10 0
  unfolding checks_within
  checks_past = stops _ (first_at 0 (head_rules_within most d) past)

  pub verdict_past : verdict_within most d ≡ refuse 10 0
  unfolding verdict_within
  verdict_past = refused _ checks_past

  pub name_past : (i : ℕ) → name_at_within most d i ≡ refuse 10 0
  unfolding name_at_within
  name_past i = refused _ (stops _ checks_past)
