-- The table of the bytes that are wanted, by its rows. Assumes nothing.
use Rattle.rules.proofs.Prelude.{◌≡◌, ap, List, ℕ, Passed, first_at, first_pass}
use Rattle.rules.specs.Rules.{At, refusal_at}
use Rattle.dictionary.specs.Wanted.{wanted_rules, asked, wanted}

module _ (d : List ℕ) where
  pub wanted_at : (k : ℕ) → At k (wanted_rules d) → wanted d ≡ asked (refusal_at k (wanted_rules d))
  unfolding wanted
  wanted_at k h = ap asked (first_at k (wanted_rules d) h)

  pub wanted_none : Passed (wanted_rules d) → wanted d ≡ 0
  unfolding wanted
  wanted_none h = ap asked (first_pass (wanted_rules d) h)
