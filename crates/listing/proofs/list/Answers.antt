-- `listing::list` meets its contract: the layer's refusal, or 43, or 41, or the rows. Assumes nothing.
use Rattle.rules.proofs.Prelude.{◌≡◌, sym, ◌∙◌, List, ℕ, ◌*◌, ◌≤◌, ◌<◌, arith, length, refused, answered, stops, goes, first_at, first_pass}
use Rattle.std.specs.Prelude.{Err}
use Rattle.width.specs.Limits.{u32_max}
use Rattle.layout.proofs.Results.{raised}
use Rattle.layer.specs.Object.{count}
use Rattle.layer.proofs.Laws.{count_below, in_region}
use Rattle.listing.specs.declared.Refusal.{Refusal}
use Rattle.listing.specs.declared.Refusal.TheVariants.{Layer, NoRoom}
use Rattle.listing.specs.Promises.{ListPromise}
use Rattle.listing.specs.Words.{list_checks, list_checks_within, listed_within, words_after_within}
use Rattle.listing.specs.Steps.{stop_of}
use Rattle.listing.proofs.list.Goals as goal

-- a refusal that the checks stop at
stopped : (d o w : List ℕ) (r : Refusal) → list_checks d o w ≡ stop_of r → ListPromise d o w (Err r) w
unfolding listed_within words_after_within
stopped d o w r c = record { answers = sym (refused _ c); leaves = rw c }

pub returns-in_err-m : goal.returns-in_err-m
unfolding list_checks_within
returns-in_err-m c = rw (raised _ c.from_residual.ensures.1) (stopped _ _ _ (Layer _) (stops _ c.in_err-m.ensures))

pub measure-requires : goal.measure-requires
measure-requires c = let m = c.in_ok-m.ensures in (m.layered, in_region _ _ m.passes)

pub overflow_mul-l : goal.overflow_mul-l
unfolding u32_max
overflow_mul-l c = omega (arith, c.in_ok-m.ensures.layered, count_below c.args.object.now)

pub write_rows-requires : goal.write_rows-requires
write_rows-requires c = let m = c.in_ok-m.ensures in (m.layered, in_region _ _ m.passes, omega (arith, m.layered.count_is))

pub returns-in_err-measure : goal.returns-in_err-measure
unfolding list_checks_within
returns-in_err-measure c =
    rw (raised _ c.from_residual-in_err-measure.ensures.1)
    (stopped _ _ _ _ (goes _ c.in_ok-m.ensures.passes ∙ stops _ (sym c.in_err-measure.ensures)))

pub returns-then-words-l : goal.returns-then-words-l
unfolding list_checks_within
returns-then-words-l c =
    let m = c.in_ok-m.ensures in
    let short : length c.args.words.now < 3 * count c.args.object.now = omega (arith, m.layered.count_is) in
    stopped _ _ _ NoRoom (goes _ m.passes ∙ goes _ (sym c.in_ok-measure.ensures) ∙ first_at 0 _ short)

pub returns : goal.returns
unfolding list_checks_within listed_within words_after_within
returns c =
    let m = c.in_ok-m.ensures in
    let room : 3 * count c.args.object.now ≤ length c.args.words.now = omega (arith, m.layered.count_is) in
    let e = goes _ m.passes ∙ goes _ (sym c.in_ok-measure.ensures) ∙ first_pass _ (room, tt) in
    record {
      answers = rw (c.from.ensures, m.layered.count_is, m.layered.start_is, m.layered.end_is) (sym (answered _ e));
      leaves = c.write_rows.ensures ∙ rw e;
    }
