-- `flags::any_suspect` meets its contract: the loop keeps that, as long as nothing was flagged, all entries before i pass. Assumes nothing.
use Rattle.rules.proofs.Prelude.{◌≡◌, ◌∙◌, false, arith, each_none, each_more}
use Rattle.rules.proofs.Laws.{neither}
use Rattle.dictionary.specs.Dictionary.{count as count_of}
use Rattle.dictionary.proofs.Laws.{uncut_zero, entry_passes}
use Rattle.flags.proofs.any_suspect.Goals as goal

pub loop-i-init : goal.loop-i-init
loop-i-init c = let s = c in (omega arith, λ quiet. (rw s.requires.1 (uncut_zero _ s.requires.2), each_none _))

pub loop-i-preserved : goal.loop-i-preserved
loop-i-preserved c =
    let s = c in
    let l = c.loop-i in
    let to_is = c.offset_at-to.ensures.0 in (
      to_is,
      λ quiet. let none : (l.any ≡ false) × (c.suspect-any.result ≡ false) = search neither in
          let so_far = l.invariant.1 none.0 in
          let range = c.suspect-any.ensures none.1 in (
            range.1.1,
            each_more _ l.i so_far.1 ∙ entry_passes _ l.i s.requires.0.sorted_is s.requires.3 s.requires.1 l.invariant.0 to_is so_far.0 range,
          ),
    )

pub returns : goal.returns
returns c =
    let l = c.loop-i in
    let all : l.i ≡ count_of c.args.dict.now = omega arith in
    rw (← all) (λ quiet. (l.invariant.1 quiet).1)
