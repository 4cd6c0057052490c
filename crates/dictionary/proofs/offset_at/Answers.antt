-- `dictionary::offset_at` meets its contract: the header holds the offset. Assumes nothing.
use Rattle.rules.proofs.Prelude.{◌∙◌, arith, rules}
use Rattle.dictionary.specs.Dictionary.{offset}
use Rattle.dictionary.proofs.Laws.{offset_inside}
use Rattle.dictionary.proofs.offset_at.Goals as goal

pub overflow_mul-w : goal.overflow_mul-w
overflow_mul-w c = let a = c.args in omega (arith, offset_inside a.dict.now a.w a.k c.requires.0 c.requires.3)

pub overflow_add-w-2 : goal.overflow_add-w-2
overflow_add-w-2 c = let a = c.args in omega (arith, offset_inside a.dict.now a.w a.k c.requires.0 c.requires.3)

pub unpack_u32-requires : goal.unpack_u32-requires
unpack_u32-requires c = let a = c.args in omega (arith, offset_inside a.dict.now a.w a.k c.requires.0 c.requires.3)

pub returns : goal.returns
unfolding offset
returns c = (c.unpack_u32.ensures.is ∙ rw c.requires.0, c.unpack_u32.ensures.fits)
