-- `dictionary::lead_of` meets its contract: each number is read off the one byte. Assumes nothing.
use Rattle.rules.proofs.Prelude.{arith, rules}
use Rattle.dictionary.specs.Dictionary.{version, sorted, width}
use Rattle.dictionary.proofs.lead_of.Goals as goal

pub returns : goal.returns
unfolding version sorted width
returns c =
    let e = c.wide-b.ensures.0 in
    record { version_is = rw e; sorted_is = rw e; width_is = rw e; some = omega arith; few = omega arith }
