-- `metadata::span_of` meets its contract: a checked dictionary's offsets do not fall and stay in the region. Assumes nothing.
use Rattle.rules.proofs.Prelude.{arith}
use Rattle.dictionary.proofs.Laws.{end_is, region_length, name_part}
use Rattle.metadata.proofs.Means.{good}
use Rattle.metadata.proofs.span_of.Goals as goal

pub returns : goal.returns
returns c =
    let s = c in
    let d = s.args.dict.now in
    let i = s.args.i in
    let header = s.requires.0.0 in
    let r = ((good d s.requires.0.1).entries i s.requires.1).in_range in
    record {
      start_is = omega arith;
      end_is = omega arith;
      rises = omega arith;
      inside = omega (arith, end_is d, region_length d (omega arith));
      name_is = rw (header.start_is, c.offset_at.ensures.0, c.offset_at-2.ensures.0) (name_part d i (omega arith) r.stays);
    }
