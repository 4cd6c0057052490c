-- Where its header passes, an object's checks look at its own bytes alone: what is added after it changes nothing. And over a dictionary that
-- passes, bytes added to the dictionary change nothing. Assumes nothing.
use Rattle.rules.proofs.Prelude.{◌≡◌, refl, sym, ◌∙◌, List, [], ◌++◌, ℕ, ◌≤◌, arith, length, Found, Passed, first, pass, stop, goes}
use Rattle.rules.proofs.Prelude.{first_pass, passed, kept}
use mathlib.Core.List.{append-nil}
use Rattle.dictionary.specs.Limits.{limit}
use Rattle.dictionary.specs.Dictionary as dictionary
use Rattle.layer.specs.Object.{head_rules, checks, checks_within}
use Rattle.layer.proofs.Laws.{by_head}
use Rattle.object.proofs.Appended.{lifted_here, fields, head_kept, fields_same}

module _ (d t o u : List ℕ) (over : dictionary.checks d ≡ pass) (over' : dictionary.checks (d ++ t) ≡ pass) where
  by_fields : Passed (head_rules o) → checks d o ≡ fields d o
  unfolding checks_within
  by_fields h = goes _ over ∙ goes _ (first_pass (head_rules o) h)

  by_fields' : Passed (head_rules (o ++ u)) → checks (d ++ t) (o ++ u) ≡ fields (d ++ t) (o ++ u)
  unfolding checks_within
  by_fields' h = goes _ over' ∙ goes _ (first_pass (head_rules (o ++ u)) h)

  -- BOTH, where the header passes
  pub checks_same : Passed (head_rules o) → length (o ++ u) ≤ limit → checks (d ++ t) (o ++ u) ≡ checks d o
  checks_same h l =
      let again : first (head_rules (o ++ u)) ≡ pass = rw (first_pass (head_rules o) h) at (kept lifted_here (head_rules o) (head_rules (o ++ u)) (head_kept o u l)) in
      by_fields' (passed (head_rules (o ++ u)) again) ∙ fields_same d t o u over (omega arith) ∙ sym (by_fields h)

-- BYTES AFTER THE OBJECT
pub checks_local : (d o u : List ℕ) → dictionary.checks d ≡ pass → Passed (head_rules o) → length (o ++ u) ≤ limit → checks d (o ++ u) ≡ checks d o
checks_local d o u over h l = rw append-nil at (checks_same d [] o u over (rw append-nil over) h l)

-- BYTES AFTER THE DICTIONARY
pub checks_dictionary : (d t o : List ℕ) → dictionary.checks d ≡ pass → dictionary.checks (d ++ t) ≡ pass → checks (d ++ t) o ≡ checks d o
checks_dictionary d t o over over' = go (first (head_rules o)) refl
  where
    go : (f : Found) → first (head_rules o) ≡ f → checks (d ++ t) o ≡ checks d o
    go (stop c p) e = by_head (d ++ t) o over' e ∙ sym (by_head d o over e)
    go pass e =
        let h = passed (head_rules o) e in
        rw append-nil at (checks_same d t o [] over over' h (rw append-nil (omega arith)))
