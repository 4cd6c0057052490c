-- `dictionary::places_of` meets its contract: the count, and the sum that the definition says. Assumes nothing.
use Rattle.rules.proofs.Prelude.{rules}
use Rattle.dictionary.specs.Dictionary.{count, start}
use Rattle.dictionary.proofs.places_of.Goals as goal

pub returns : goal.returns
unfolding count start
returns c = let e = c.unpack_u32-n.ensures.is in let f = c.requires.0 in record { count_is = rw (e, f); start_is = rw (e, f) }
