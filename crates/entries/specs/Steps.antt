-- What the steps of the region's and the entries' checks answer each other, in the words of dictionary/specs/Dictionary.antt. Assumes nothing.
use Rattle.std.specs.Prelude.{◌≡◌, List, ℕ, ◌+◌, ◌-◌, ◌≤◌, length, Result, Ok, Err, ⊤}
use Rattle.rules.specs.Rules.{Found, first, Fails}
use Rattle.rules.specs.Rules.Found.{pass}
use Rattle.dictionary.specs.Dictionary.{offset, region, cuts, entry_rules}
use Rattle.dictionary.specs.Steps.{stop_of}
use Rattle.dictionary.specs.declared.Refusal.{Refusal}

-- the walk has come to entry k, which starts at `a`, and the one before at `p`
pub record Reached (d : List ℕ) (k p a : ℕ) : Type 0 where
  pub before_is : p ≡ offset d (k - 1)
  pub start_is : a ≡ offset d k
  pub rises : p ≤ a
  pub inside : a ≤ length (region d)
  pub whole : Fails (cuts (region d) a)

abbrev pub EntryOf : List ℕ → ℕ → ℕ → Result ℕ Refusal → Type 0
EntryOf d k a (Err r) = first (entry_rules d k) ≡ stop_of r
EntryOf d k a (Ok e) = (first (entry_rules d k) ≡ pass) × Reached d (k + 1) a e

abbrev pub found_of : Result ⊤ Refusal → Found
found_of (Err r) = stop_of r
found_of (Ok _) = pass
