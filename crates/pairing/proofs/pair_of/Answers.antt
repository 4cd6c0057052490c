-- `pairing::pair_of` meets its contract: the halves of the line are an entry's name and what spells bytes. Assumes nothing.
use Rattle.std.proofs.Common.{◌≡◌, ◌+◌, ◌-◌, length, length-drop, take, drop, arith}
use Rattle.rules.proofs.Prelude.{take_all}
use Rattle.pairing.proofs.Laws.{spelt, small}
use Rattle.pairing.proofs.pair_of.Goals as goal

pub returns-clause-pair_of : goal.returns-clause-pair_of
returns-clause-pair_of c =
    let at = c.in_ok-space.space in
    let line = c.args.line.now in
    let e = c.in_ok-space.ensures.ok_part in
    let f = c.in_ok-id.ensures.ok_part in
    let rest = drop (at + 1) line in
    let n = length line - (at + 1) in
    let all : take n rest ≡ rest = take_all n rest (simp length-drop (omega arith)) in
    record {
      at = at;
      halves = rw e at c.last_space.ensures;
      entry = rw f at c.entry_of.ensures;
      spelt = rw all at (spelt (take n rest) c.args.out.now c.in_ok-len.len c.in_ok-len.ensures);
    }

pub returns-clause-len_in_bounds : goal.returns-clause-len_in_bounds
returns-clause-len_in_bounds c =
    let f = c.in_ok-id.ensures.ok_part in
    let entry = rw f at c.entry_of.ensures in
    (c.in_ok-len.ensures.fits, small c.requires (omega (arith, entry.inside)))
