-- `dictionary::end_of` meets its contract: the last offset, after the start. Assumes nothing.
use Rattle.rules.proofs.Prelude.{ap, arith, rules}
use Rattle.dictionary.specs.Dictionary.{end, offset}
use Rattle.dictionary.proofs.end_of.Goals as goal

pub returns : goal.returns
unfolding end
returns c = let s = c in omega (arith, ap (offset s.args.dict.now) s.requires.0.count_is)
