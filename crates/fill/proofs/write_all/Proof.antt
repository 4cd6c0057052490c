-- `fill::write_all` meets its contract: the first byte, the count, and offsets and names. Assumes nothing.
use Rattle.rules.proofs.Prelude.{◌∙◌, arith, rules, length, length-set}
use Rattle.lay.proofs.Items.{items_names, lent_names}
use Rattle.lay.proofs.Laws.{offsets_length, joined_length}
use Rattle.fill.specs.Steps.{list_of}
use Rattle.fill.proofs.Laws.{all_filled}
use Rattle.fill.proofs.write_all.Statement.{statement}
use Rattle.fill.proofs.write_all.Tie as tie

pub write_all_spec : {M : Type 1} → statement M
write_all_spec =
    tie.close
    (tie.spec
    (λ c. search rules) (λ c. search rules) (λ c. search rules) (λ c. search rules)  -- the first byte
    (λ c. let p = c.requires.2 in omega (arith, p.fits, p.region_is))  -- slice-write-room
    (λ c κs. let s = c in
    let p = s.requires.2 in
    simp length-set (omega (arith, p.fits, p.region_is)))  -- number-requires
    (λ c. search rules)  -- add-write-entries
    (λ c κs. let s = c in
    let p = s.requires.2 in
    let w = s.args.w in
    let names = list_of s.args.run.now s.args.ends.now in (
      lent_names _ _ s.requires.0,
      s.requires.1,
      rw (items_names s.args.run.now s.args.ends.now) record {
        offsets_fit = omega (arith, p.region_is, offsets_length w 0 names);
        items_fit = omega (arith, p.fits, joined_length names, simp length-set at c.number.auto.room);
      },
    ))  -- write-entries-requires
    (λ c. c.write_entries.auto.room ∙ c.number.auto.room ∙ simp length-set)  -- same-length
    (λ c. let s = c in
    let p = s.requires.2 in
    let whole = all_filled s.args.w _ s.args.room.now s.args.count s.args.region p.count_is p.region_is in
    rw (c.write_entries.ensures, items_names s.args.run.now s.args.ends.now, c.number.ensures) whole))  -- returns
