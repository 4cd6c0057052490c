-- `entries::check_entry` meets its contract: each refusal is the first row that holds. Assumes nothing.
use Rattle.rules.proofs.Prelude.{◌≡◌, ◌∙◌, ◌+◌, ◌-◌, List, ℕ, arith, first, Fails, first_at, first_pass, ◌&◌}
use Rattle.dictionary.specs.declared.Header.{Header}
use Rattle.dictionary.specs.Dictionary.{offset, region, cuts, entry_rows, entry_rules}
use Rattle.dictionary.specs.Steps.{HeaderOf}
use Rattle.dictionary.proofs.Laws.{entry_is}
use Rattle.entries.specs.Steps.{Reached}
use Rattle.entries.proofs.check_entry.Goals as goal

-- the entry's table, in the numbers at hand; and that its start cuts no character
module _ (d r : List ℕ) (h : Header) {k p a e : ℕ} (o : HeaderOf d h) (is : r ≡ region d) (reached : Reached d k p a) (e-is : e ≡ offset d (k + 1)) where
  rows : first (entry_rules d k) ≡ first (entry_rows h.sorted r p a e k)
  rows = entry_is d k o.sorted_is is reached.before_is reached.start_is e-is

  start_whole : Fails (cuts r a)
  start_whole = rw is reached.whole

pub returns-then-out_of_range : goal.returns-then-out_of_range
returns-then-out_of_range c =
    let s = c.requires in
    rows _ c.args.region.now c.args.h s.0 s.1 s.3 c.offset_at-e.ensures.0
    ∙ first_at 0 _ (λ whole. rw c.if-out_of_range.true at c.out_of_range.ensures)

pub returns-then-not_above : goal.returns-then-not_above
returns-then-not_above c =
    let s = c.requires in
    let e-is = c.offset_at-e.ensures.0 in
    let range = rw c.if-out_of_range.false at c.out_of_range.ensures in
    rows _ c.args.region.now c.args.h s.0 s.1 s.3 e-is
    ∙ first_at 1 _ ((start_whole _ c.args.region.now c.args.h s.0 s.1 s.3 e-is & range) & rw c.if-not_above.true at c.not_above.ensures)

pub returns : goal.returns
returns c =
    let s = c.requires in
    let e-is = c.offset_at-e.ensures.0 in
    let range = rw c.if-out_of_range.false at c.out_of_range.ensures in
    let above = rw c.if-not_above.false at c.not_above.ensures in
    let k-is : c.args.k + 1 - 1 ≡ c.args.k = omega arith in (
      rows _ c.args.region.now c.args.h s.0 s.1 s.3 e-is
          ∙ first_pass _ ((start_whole _ c.args.region.now c.args.h s.0 s.1 s.3 e-is & range) & above & tt),
      record {
        before_is = rw k-is s.3.start_is;
        start_is = e-is;
        rises = range.0;
        inside = rw (← s.1) range.1.0;
        whole = rw (← s.1) range.1.1;
      },
    )
