-- In `pairs::check_ids`, the ids before `number` are entries, and the largest of them is at hand. Assumes nothing.
use Rattle.rules.proofs.Prelude.{◌≡◌, ℕ, ◌<◌}
use Rattle.dictionary.specs.Dictionary as dictionary
use Rattle.source.specs.Pairs.{id}
use Rattle.pairs.specs.Checks.{largest}
use Rattle.pairs.proofs.check_ids.Given as goal

abbrev pub invariant-loop-number : goal.invariant-loop-number
invariant-loop-number l =
    record { entries : (j : ℕ) → j < l.number → id l.words j < dictionary.count l.dict; most : l.most ≡ largest l.words l.number }
