-- `pairs::check_ids` meets its contract: the first id that is no entry, or the largest of all. Assumes nothing.
use borrow.Author.Count.{below_more}
use Rattle.rules.proofs.Prelude.{◌≡◌, ◌∙◌, ◌<◌, arith}
use Rattle.dictionary.specs.Dictionary as dictionary
use Rattle.source.specs.Pairs.{id}
use Rattle.pairs.proofs.Laws.{largest_none, largest_more}
use Rattle.pairs.proofs.Means.{ids_good, ids_bad}
use Rattle.pairs.proofs.check_ids.Goals as goal

pub loop-number-init : goal.loop-number-init
loop-number-init c = record { entries = λ j p. absurd (omega arith); most = largest_none _ }

pub returns-then-count-id : goal.returns-then-count-id
returns-then-count-id c =
    (ids_bad _ _ _).1 record { is_pair = omega arith; is_first = c.loop-number.invariant.entries; beyond = omega arith }

pub loop-number-preserved : goal.loop-number-preserved
loop-number-preserved c =
    let a = c.args in
    let l = c.loop-number in
    record {
      entries = below_more (λ j. id a.words.now j < dictionary.count a.dict.now) l.number l.invariant.entries (omega arith);
      most = c.max-most.ensures ∙ largest_more _ l.number l.invariant.most c.id_at-id.ensures.0;
    }

pub returns : goal.returns
returns c =
    let l = c.loop-number in
    let all : l.number ≡ _ = omega arith in
    ((ids_good _ _).1 (rw all at l.invariant.entries), rw all at l.invariant.most)
